use Rattle.vk_pipe.specs.Tables as table
use Rattle.vk_pipe.specs.Plain as plain
use Rattle.json_fold.proofs.Puts.{all_put, done, then_field}
use Rattle.json_pipe.proofs.viewport.ViewportJsonPipe.put_members.Goals as goal

pub returns-clause-written : goal.returns-clause-written
unfolding table.viewport plain.viewport
returns-clause-written c =
    all_put table.viewport (plain.viewport c.args.self.now) _ _ (
    then_field c.in_ok-unit.ensures (then_field c.in_ok-unit-2.ensures (then_field c.in_ok-unit-3.ensures (then_field c.in_ok-unit-4.ensures (
    then_field c.in_ok-unit-5.ensures (then_field c.in_ok-unit-6.ensures done))))))
