use Rattle.vk_pipe.specs.Tables as table
use Rattle.vk_pipe.specs.Plain as plain
use Rattle.vk_form.specs.Writes.{done, then_field}
use Rattle.vk_pipe.proofs.blend.DynamicStructure.put_words.Goals as goal

pub returns : goal.returns
unfolding table.dynamic plain.dynamic
returns c =
    then_field c.number.ensures (then_field c.numbers.ensures done)
