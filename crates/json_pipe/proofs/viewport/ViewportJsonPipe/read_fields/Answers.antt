use Rattle.vk_pipe.specs.Tables as table
use Rattle.vk_pipe.specs.Plain as plain
use Rattle.json_fold.specs.Steps.{done, then_field}
use Rattle.json_pipe.proofs.viewport.ViewportJsonPipe.read_fields.Goals as goal

pub returns : goal.returns
unfolding table.viewport plain.viewport
returns c =
    then_field c.unit.ensures (then_field c.unit-2.ensures (then_field c.unit-3.ensures (then_field c.unit-4.ensures (then_field c.unit-5.ensures (
    then_field c.unit-6.ensures done)))))
