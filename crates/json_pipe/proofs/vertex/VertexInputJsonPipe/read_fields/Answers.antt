use Rattle.vk_pipe.specs.Tables as table
use Rattle.vk_pipe.specs.Plain as plain
use Rattle.json_fold.specs.Steps.{done, then_field}
use Rattle.json_pipe.proofs.vertex.VertexInputJsonPipe.read_fields.Goals as goal

pub returns : goal.returns
unfolding table.vertex_input plain.vertex_input
returns c =
    then_field c.number.ensures (then_field c.structures.ensures (then_field c.structures-2.ensures done))
