use Rattle.slot_log.proofs.Replying.{replies_are_told}
use Rattle.slot_log.proofs.laws.told_replies.Goals as goal

pub returns : goal.returns
returns c = replies_are_told
