use Rattle.vk_pipe.specs.Tables as table
use Rattle.vk_pipe.specs.Plain as plain
use Rattle.json_fold.proofs.Puts.{all_put, done, then_field}
use Rattle.json_pipe.proofs.compute.ComputePipelineJsonPipe.put_members.Goals as goal

pub returns-clause-written : goal.returns-clause-written
unfolding table.compute_pipeline plain.compute_pipeline
returns-clause-written c =
    all_put table.compute_pipeline (plain.compute_pipeline c.args.self.now) _ _ (
    then_field c.in_ok-number.ensures.written (then_field c.in_ok-structure.ensures.written (then_field c.in_ok-hash.ensures.written (
    then_field c.in_ok-hash-2.ensures.written done))))
