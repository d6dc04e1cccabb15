use Rattle.vk_pipe.specs.Tables as table
use Rattle.vk_pipe.specs.Plain as plain
use Rattle.json_fold.specs.Steps.{done, then_field}
use Rattle.json_pipe.proofs.blend.ColorBlendJsonPipe.read_fields.Goals as goal

pub returns : goal.returns
unfolding table.color_blend plain.color_blend
returns c =
    then_field c.number-flags.ensures (then_field c.number-logic_op_enable.ensures (then_field c.number-logic_op.ensures (
    then_field c.structures-attachments.ensures (then_field c.four_units-constants.ensures done))))
