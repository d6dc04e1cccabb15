use Rattle.vk_pipe.specs.Tables as table
use Rattle.vk_pipe.specs.Plain as plain
use Rattle.json_fold.proofs.Puts.{all_put, done, then_field, then_optional}
use Rattle.json_pipe.proofs.graphics.GraphicsPipelineJsonPipe.put_members.Goals as goal

pub returns-clause-written : goal.returns-clause-written
unfolding table.graphics_pipeline plain.graphics_pipeline
returns-clause-written c =
    all_put table.graphics_pipeline (plain.graphics_pipeline c.args.self.now) _ _ (
    then_field c.in_ok-number.ensures.written (then_field c.in_ok-structures.ensures.written (then_optional c.in_ok-optional.ensures.written (
    then_optional c.in_ok-optional-2.ensures.written (then_optional c.in_ok-optional-3.ensures.written (
    then_optional c.in_ok-optional-4.ensures.written (then_optional c.in_ok-optional-5.ensures.written (
    then_optional c.in_ok-optional-6.ensures.written (then_optional c.in_ok-optional-7.ensures.written (
    then_optional c.in_ok-optional-8.ensures.written (then_optional c.in_ok-optional-9.ensures.written (then_field c.in_ok-hash.ensures.written (
    then_field c.in_ok-hash-2.ensures.written (then_field c.in_ok-number-2.ensures.written (then_field c.in_ok-hash-3.ensures.written done)))))))))))))))
