use Rattle.vk_pass.specs.Tables as table
use Rattle.vk_pass.specs.Plain as plain
use Rattle.json_fold.specs.Steps.{done, then_field}
use Rattle.json_pass.proofs.render_pass.RenderPassJsonPass.read_fields.Goals as goal

pub returns : goal.returns
unfolding table.render_pass plain.render_pass
returns c =
    then_field c.number.ensures (then_field c.structures.ensures (then_field c.structures-2.ensures (then_field c.structures-3.ensures done)))
