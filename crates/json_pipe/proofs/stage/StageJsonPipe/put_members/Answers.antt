use Rattle.vk_pipe.specs.Tables as table
use Rattle.vk_pipe.specs.Plain as plain
use Rattle.json_fold.proofs.Puts.{all_put, done, then_field, then_optional}
use Rattle.json_pipe.proofs.stage.StageJsonPipe.put_members.Goals as goal

pub returns-clause-written : goal.returns-clause-written
unfolding table.stage plain.stage
returns-clause-written c =
    all_put table.stage (plain.stage c.args.self.now) _ _ (
    then_field c.in_ok-number.ensures.written (then_field c.in_ok-number-2.ensures.written (then_field c.in_ok-hash.ensures.written (
    then_field c.in_ok-text.ensures (then_optional c.in_ok-optional.ensures.written done)))))
