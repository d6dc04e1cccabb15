use Rattle.vk_pipe.specs.Tables as table
use Rattle.vk_pipe.specs.Plain as plain
use Rattle.vk_form.specs.Writes.{done, then_field}
use Rattle.vk_pipe.proofs.compute.ComputePipelineStructure.put_words.Goals as goal

pub returns : goal.returns
unfolding table.compute_pipeline plain.compute_pipeline
returns c =
    then_field c.number.ensures (then_field c.structure.ensures (then_field c.hash.ensures (then_field c.hash-2.ensures done)))
