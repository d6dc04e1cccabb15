use Rattle.replay_core.proofs.Independence.{outcomes_decide}
use Rattle.replay_core.proofs.laws.same_outcomes_same_verdicts.Goals as goal

pub returns : goal.returns
returns c = outcomes_decide
