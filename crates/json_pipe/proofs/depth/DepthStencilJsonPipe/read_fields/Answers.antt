use Rattle.vk_pipe.specs.Tables as table
use Rattle.vk_pipe.specs.Plain as plain
use Rattle.json_fold.specs.Steps.{done, then_field}
use Rattle.json_pipe.proofs.depth.DepthStencilJsonPipe.read_fields.Goals as goal

pub returns : goal.returns
unfolding table.depth_stencil plain.depth_stencil
returns c =
    then_field c.number.ensures (then_field c.number-2.ensures (then_field c.number-3.ensures (then_field c.number-4.ensures (
    then_field c.number-5.ensures (then_field c.number-6.ensures (then_field c.structure.ensures (then_field c.structure-2.ensures (
    then_field c.unit.ensures (then_field c.unit-2.ensures done)))))))))
