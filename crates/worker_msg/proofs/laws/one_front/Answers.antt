use Rattle.std.proofs.Common.{◌++◌, refl}
use Rattle.worker_msg.specs.Frames.{spelling}
use Rattle.worker_msg.proofs.Exclusive.{partial_or_bad, one_place}
use Rattle.worker_msg.proofs.Taking.{one_message, message_or_partial, message_or_bad}
use Rattle.worker_msg.proofs.laws.one_front.Goals as goal

pub returns-clause-message : goal.returns-clause-message
returns-clause-message c = one_message

pub returns-clause-partial : goal.returns-clause-partial
returns-clause-partial c = λ side message x sent p. message_or_partial side message (spelling message ++ x) x sent refl p

pub returns-clause-bad : goal.returns-clause-bad
returns-clause-bad c = λ side message x place sent b. message_or_bad side message (spelling message ++ x) x place sent refl b

pub returns-clause-either : goal.returns-clause-either
returns-clause-either c = partial_or_bad

pub returns-clause-place : goal.returns-clause-place
returns-clause-place c = one_place
