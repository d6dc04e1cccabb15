use Rattle.vk_pipe.specs.Tables as table
use Rattle.vk_pipe.specs.Plain as plain
use Rattle.json_fold.proofs.Puts.{all_put, done, then_field}
use Rattle.json_pipe.proofs.blend.DynamicJsonPipe.put_members.Goals as goal

pub returns-clause-written : goal.returns-clause-written
unfolding table.dynamic plain.dynamic
returns-clause-written c =
    all_put table.dynamic (plain.dynamic c.args.self.now) _ _ (
    then_field c.in_ok-number.ensures.written (then_field c.in_ok-numbers.ensures.written done))
