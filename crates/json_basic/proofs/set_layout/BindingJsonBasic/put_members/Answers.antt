use Rattle.vk_basic.specs.Tables as table
use Rattle.vk_basic.specs.Plain as plain
use Rattle.json_fold.proofs.Puts.{all_put, done, then_field}
use Rattle.json_basic.proofs.set_layout.BindingJsonBasic.put_members.Goals as goal

pub returns-clause-written : goal.returns-clause-written
unfolding table.binding plain.binding
returns-clause-written c =
    all_put table.binding (plain.binding c.args.self.now) _ _ (
    then_field c.in_ok-number.ensures.written (then_field c.in_ok-number-2.ensures.written (then_field c.in_ok-number-3.ensures.written (
    then_field c.in_ok-number-4.ensures.written (then_field c.in_ok-hashes.ensures.written done)))))
