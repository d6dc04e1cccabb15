use Rattle.foz_payload.specs.Tables as table
use Rattle.foz_payload.specs.Plain as plain
use Rattle.json_fold.proofs.Puts.{all_put, done, then_field}
use Rattle.foz_payload.proofs.module_head.ModuleHeadJsonPayload.put_members.Goals as goal

pub returns-clause-written : goal.returns-clause-written
unfolding table.module_head plain.module_head
returns-clause-written c =
    all_put table.module_head (plain.module_head c.args.self.now) _ _ (
    then_field c.in_ok-number.ensures.written (then_field c.in_ok-number-2.ensures.written (then_field c.in_ok-number-3.ensures.written (
    then_field c.in_ok-number-4.ensures.written done))))
