use Rattle.vk_pipe.specs.Tables as table
use Rattle.vk_pipe.specs.Plain as plain
use Rattle.json_fold.specs.Steps.{done, then_field}
use Rattle.json_pipe.proofs.vertex.TessellationJsonPipe.read_fields.Goals as goal

pub returns : goal.returns
unfolding table.tessellation plain.tessellation
returns c =
    then_field c.number.ensures (then_field c.number-2.ensures done)
