use Rattle.vk_pipe.specs.Tables as table
use Rattle.vk_pipe.specs.Plain as plain
use Rattle.json_fold.specs.Steps.{done, then_field}
use Rattle.json_pipe.proofs.blend.DynamicJsonPipe.read_fields.Goals as goal

pub returns : goal.returns
unfolding table.dynamic plain.dynamic
returns c =
    then_field c.number.ensures (then_field c.numbers.ensures done)
