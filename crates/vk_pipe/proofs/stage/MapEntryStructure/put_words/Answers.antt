use Rattle.vk_pipe.specs.Tables as table
use Rattle.vk_pipe.specs.Plain as plain
use Rattle.vk_form.specs.Writes.{done, then_field}
use Rattle.vk_pipe.proofs.stage.MapEntryStructure.put_words.Goals as goal

pub returns : goal.returns
unfolding table.map_entry plain.map_entry
returns c =
    then_field c.number.ensures (then_field c.number-2.ensures (then_field c.number-3.ensures done))
