use Rattle.vk_pipe.specs.Tables as table
use Rattle.vk_pipe.specs.Plain as plain
use Rattle.vk_form.specs.Writes.{done, then_field}
use Rattle.vk_pipe.proofs.stage.SpecInfoStructure.put_words.Goals as goal

pub returns : goal.returns
unfolding table.spec_info plain.spec_info
returns c =
    then_field c.structures.ensures (then_field c.bytes.ensures done)
