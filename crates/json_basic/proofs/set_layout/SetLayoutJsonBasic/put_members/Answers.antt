use Rattle.vk_basic.specs.Tables as table
use Rattle.vk_basic.specs.Plain as plain
use Rattle.json_fold.proofs.Puts.{all_put, done, then_field}
use Rattle.json_basic.proofs.set_layout.SetLayoutJsonBasic.put_members.Goals as goal

pub returns-clause-written : goal.returns-clause-written
unfolding table.set_layout plain.set_layout
returns-clause-written c =
    all_put table.set_layout (plain.set_layout c.args.self.now) _ _ (
    then_field c.in_ok-number.ensures.written (then_field c.in_ok-structures.ensures.written done))
