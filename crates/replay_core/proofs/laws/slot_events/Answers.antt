use Rattle.replay_core.proofs.Naming.{slot_events}
use Rattle.replay_core.proofs.laws.slot_events.Goals as goal

pub returns : goal.returns
returns c = slot_events
