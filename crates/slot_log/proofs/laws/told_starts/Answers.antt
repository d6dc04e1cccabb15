use Rattle.slot_log.proofs.Counting.{starts_are_told}
use Rattle.slot_log.proofs.laws.told_starts.Goals as goal

pub returns : goal.returns
returns c = starts_are_told
