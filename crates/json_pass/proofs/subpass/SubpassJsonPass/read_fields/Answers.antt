use Rattle.vk_pass.specs.Tables as table
use Rattle.vk_pass.specs.Plain as plain
use Rattle.json_fold.specs.Steps.{done, then_field, then_optional}
use Rattle.json_pass.proofs.subpass.SubpassJsonPass.read_fields.Goals as goal

pub returns : goal.returns
unfolding table.subpass plain.subpass
returns c =
    then_field c.number.ensures (then_field c.number-2.ensures (then_field c.structures.ensures (then_field c.structures-2.ensures (
    then_field c.structures-3.ensures (then_optional c.optional.ensures (then_field c.numbers.ensures done))))))
