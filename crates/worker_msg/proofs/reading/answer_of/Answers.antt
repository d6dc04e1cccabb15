use Rattle.std.proofs.Common.{arith}
use Rattle.worker_msg.proofs.Whole.{spells_hello, spells_reply}
use Rattle.worker_msg.proofs.reading.answer_of.Goals as goal

pub returns-then-frame-eq9 : goal.returns-then-frame-eq9
returns-then-frame-eq9 c = spells_hello c.args.frame.now c.requires.frame c.if-frame-eq9.true

pub returns : goal.returns
returns c = spells_reply c.args.frame.now c.in-Some.code c.key_of.result c.requires.frame (c.requires.reply c.if-frame-eq9.false) (omega arith) c.key_of.ensures.within c.in-Some.ensures.found c.key_of.ensures.spelled
