use Rattle.vk_pipe.specs.Tables as table
use Rattle.vk_pipe.specs.Plain as plain
use Rattle.json_fold.specs.Steps.{done, then_field}
use Rattle.json_pipe.proofs.stage.SpecInfoJsonPipe.read_fields.Goals as goal

pub returns : goal.returns
unfolding table.spec_info plain.spec_info
returns c =
    then_field c.structures.ensures (then_field c.bytes.ensures done)
