use Rattle.worker_msg.proofs.Taking.{bad_stays}
use Rattle.worker_msg.proofs.laws.bad_stays_bad.Goals as goal

pub returns : goal.returns
returns c = bad_stays
