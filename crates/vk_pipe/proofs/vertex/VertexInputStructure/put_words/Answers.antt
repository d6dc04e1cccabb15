use Rattle.vk_pipe.specs.Tables as table
use Rattle.vk_pipe.specs.Plain as plain
use Rattle.vk_form.specs.Writes.{done, then_field}
use Rattle.vk_pipe.proofs.vertex.VertexInputStructure.put_words.Goals as goal

pub returns : goal.returns
unfolding table.vertex_input plain.vertex_input
returns c =
    then_field c.number.ensures (then_field c.structures.ensures (then_field c.structures-2.ensures done))
