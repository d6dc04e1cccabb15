use Rattle.vk_pass.specs.Tables as table
use Rattle.vk_pass.specs.Plain as plain
use Rattle.json_fold.proofs.Puts.{all_put, done, then_field, then_optional}
use Rattle.json_pass.proofs.subpass.SubpassJsonPass.put_members.Goals as goal

pub returns-clause-written : goal.returns-clause-written
unfolding table.subpass plain.subpass
returns-clause-written c =
    all_put table.subpass (plain.subpass c.args.self.now) _ _ (
    then_field c.in_ok-number.ensures.written (then_field c.in_ok-number-2.ensures.written (then_field c.in_ok-structures.ensures.written (
    then_field c.in_ok-structures-2.ensures.written (then_field c.in_ok-structures-3.ensures.written (then_optional c.in_ok-optional.ensures.written (
    then_field c.in_ok-numbers.ensures.written done)))))))
