use Rattle.record_dedup.proofs.Alone.{step_replies}
use Rattle.record_dedup.proofs.laws.steps_follow_the_entries.Goals as goal

pub returns : goal.returns
returns c = step_replies
