use Rattle.vk_pass.specs.Tables as table
use Rattle.vk_pass.specs.Plain as plain
use Rattle.vk_form.specs.Writes.{done, then_field, then_optional}
use Rattle.vk_pass.proofs.subpass.SubpassStructure.put_words.Goals as goal

pub returns : goal.returns
unfolding table.subpass plain.subpass
returns c =
    then_field c.number.ensures (then_field c.number-2.ensures (then_field c.structures.ensures (then_field c.structures-2.ensures (
    then_field c.structures-3.ensures (then_optional c.optional.ensures (then_field c.numbers.ensures done))))))
