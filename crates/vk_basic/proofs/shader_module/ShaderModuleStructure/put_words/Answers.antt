use Rattle.vk_basic.specs.Tables as table
use Rattle.vk_basic.specs.Plain as plain
use Rattle.vk_form.specs.Writes.{done, then_field}
use Rattle.vk_basic.proofs.shader_module.ShaderModuleStructure.put_words.Goals as goal

pub returns : goal.returns
unfolding table.shader_module plain.shader_module
returns c =
    then_field c.number.ensures (then_field c.numbers.ensures done)
