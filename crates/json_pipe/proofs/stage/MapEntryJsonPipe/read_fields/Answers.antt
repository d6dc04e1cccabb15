use Rattle.vk_pipe.specs.Tables as table
use Rattle.vk_pipe.specs.Plain as plain
use Rattle.json_fold.specs.Steps.{done, then_field}
use Rattle.json_pipe.proofs.stage.MapEntryJsonPipe.read_fields.Goals as goal

pub returns : goal.returns
unfolding table.map_entry plain.map_entry
returns c =
    then_field c.number.ensures (then_field c.number-2.ensures (then_field c.number-3.ensures done))
