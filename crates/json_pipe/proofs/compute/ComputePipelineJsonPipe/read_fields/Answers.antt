use Rattle.vk_pipe.specs.Tables as table
use Rattle.vk_pipe.specs.Plain as plain
use Rattle.json_fold.specs.Steps.{done, then_field}
use Rattle.json_pipe.proofs.compute.ComputePipelineJsonPipe.read_fields.Goals as goal

pub returns : goal.returns
unfolding table.compute_pipeline plain.compute_pipeline
returns c =
    then_field c.number.ensures (then_field c.structure.ensures (then_field c.hash.ensures (then_field c.hash-2.ensures done)))
