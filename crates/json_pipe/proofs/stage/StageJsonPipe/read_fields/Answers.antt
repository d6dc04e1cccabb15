use Rattle.vk_pipe.specs.Tables as table
use Rattle.vk_pipe.specs.Plain as plain
use Rattle.json_fold.specs.Steps.{done, then_field, then_optional}
use Rattle.json_pipe.proofs.stage.StageJsonPipe.read_fields.Goals as goal

pub returns : goal.returns
unfolding table.stage plain.stage
returns c =
    then_field c.number.ensures (then_field c.number-2.ensures (then_field c.hash.ensures (then_field c.text.ensures (
    then_optional c.optional.ensures done))))
