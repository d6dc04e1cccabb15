use Rattle.replay_core.proofs.Lawful.{decided_stays}
use Rattle.replay_core.proofs.laws.decided_stays.Goals as goal

pub returns : goal.returns
returns c = decided_stays
