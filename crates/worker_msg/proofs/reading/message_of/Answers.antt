use Rattle.std.proofs.Common.{subst}
use Rattle.worker_msg.specs.Frames.{IsFrame}
use Rattle.worker_msg.specs.declared.side.Side.{Side}
use Rattle.worker_msg.proofs.Whole.{work_long, work_has_key, reply_long}
use Rattle.worker_msg.proofs.reading.message_of.Goals as goal

pub work_of-requires-clause-kind : goal.work_of-requires-clause-kind
work_of-requires-clause-kind c = work_long c.args.frame.now (subst (λ (side : Side). IsFrame side c.args.frame.now) c.in-Worker.is c.requires)

pub work_of-requires-clause-key : goal.work_of-requires-clause-key
work_of-requires-clause-key c = work_has_key c.args.frame.now (subst (λ (side : Side). IsFrame side c.args.frame.now) c.in-Worker.is c.requires)

pub answer_of-requires-clause-reply : goal.answer_of-requires-clause-reply
answer_of-requires-clause-reply c = reply_long c.args.frame.now (subst (λ (side : Side). IsFrame side c.args.frame.now) c.in-Crew.is c.requires)
