use Rattle.replay_core.proofs.Existing.{fates_exist}
use Rattle.replay_core.proofs.laws.fates_exist.Goals as goal

pub returns : goal.returns
returns c = fates_exist
