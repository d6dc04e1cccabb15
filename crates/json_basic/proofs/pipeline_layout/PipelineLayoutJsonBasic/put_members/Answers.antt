use Rattle.vk_basic.specs.Tables as table
use Rattle.vk_basic.specs.Plain as plain
use Rattle.json_fold.proofs.Puts.{all_put, done, then_field}
use Rattle.json_basic.proofs.pipeline_layout.PipelineLayoutJsonBasic.put_members.Goals as goal

pub returns-clause-written : goal.returns-clause-written
unfolding table.pipeline_layout plain.pipeline_layout
returns-clause-written c =
    all_put table.pipeline_layout (plain.pipeline_layout c.args.self.now) _ _ (
    then_field c.in_ok-number.ensures.written (then_field c.in_ok-hashes.ensures.written (then_field c.in_ok-structures.ensures.written done)))
