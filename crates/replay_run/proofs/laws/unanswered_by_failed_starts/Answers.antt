use Rattle.replay_run.proofs.Undecided.{unanswered}
use Rattle.replay_run.proofs.laws.unanswered_by_failed_starts.Goals as goal

pub returns : goal.returns
returns c = unanswered
