use Rattle.vk_pass.specs.Tables as table
use Rattle.vk_pass.specs.Plain as plain
use Rattle.json_fold.proofs.Puts.{all_put, done, then_field}
use Rattle.json_pass.proofs.render_pass.RenderPassJsonPass.put_members.Goals as goal

pub returns-clause-written : goal.returns-clause-written
unfolding table.render_pass plain.render_pass
returns-clause-written c =
    all_put table.render_pass (plain.render_pass c.args.self.now) _ _ (
    then_field c.in_ok-number.ensures.written (then_field c.in_ok-structures.ensures.written (then_field c.in_ok-structures-2.ensures.written (
    then_field c.in_ok-structures-3.ensures.written done))))
