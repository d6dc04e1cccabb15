use Rattle.replay_text.proofs.Decided.{decided_answered}
use Rattle.replay_text.proofs.laws.decided_is_answered.Goals as goal

pub returns : goal.returns
returns c = decided_answered
