use Rattle.replay_core.proofs.Ranks.{ranks_fall}
use Rattle.replay_core.proofs.laws.ranks_fall.Goals as goal

pub returns : goal.returns
returns c = ranks_fall
