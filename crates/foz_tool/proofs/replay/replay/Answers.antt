use Rattle.foz_tool.proofs.Replayed.{replay_causes}
use Rattle.foz_tool.proofs.replay.replay.Goals as goal

pub returns-clause-causes : goal.returns-clause-causes
returns-clause-causes g c = replay_causes c.decided_is_answered.ensures c.unanswered_by_failed_starts.ensures ⊥ _ _ _ c.in_ok-told.told c.in_ok-told.ensures.told
