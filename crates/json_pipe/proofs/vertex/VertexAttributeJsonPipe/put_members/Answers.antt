use Rattle.vk_pipe.specs.Tables as table
use Rattle.vk_pipe.specs.Plain as plain
use Rattle.json_fold.proofs.Puts.{all_put, done, then_field}
use Rattle.json_pipe.proofs.vertex.VertexAttributeJsonPipe.put_members.Goals as goal

pub returns-clause-written : goal.returns-clause-written
unfolding table.vertex_attribute plain.vertex_attribute
returns-clause-written c =
    all_put table.vertex_attribute (plain.vertex_attribute c.args.self.now) _ _ (
    then_field c.in_ok-number.ensures.written (then_field c.in_ok-number-2.ensures.written (then_field c.in_ok-number-3.ensures.written (
    then_field c.in_ok-number-4.ensures.written done))))
