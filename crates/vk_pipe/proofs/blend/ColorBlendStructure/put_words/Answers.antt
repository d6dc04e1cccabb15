use Rattle.vk_pipe.specs.Tables as table
use Rattle.vk_pipe.specs.Plain as plain
use Rattle.vk_form.specs.Writes.{done, then_field}
use Rattle.vk_pipe.proofs.blend.ColorBlendStructure.put_words.Goals as goal

pub returns : goal.returns
unfolding table.color_blend plain.color_blend
returns c =
    then_field c.number.ensures (then_field c.number-2.ensures (then_field c.number-3.ensures (then_field c.structures.ensures (
    then_field c.four_units.ensures done))))
