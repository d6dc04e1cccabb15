use Rattle.record_team.proofs.Waiting.{waits_flushed}
use Rattle.record_team.proofs.thread.flush.Goals as goal

pub returns-clause-batch : goal.returns-clause-batch
returns-clause-batch g c = waits_flushed _ _ _ c.in_ok-flush_at.ensures.told
