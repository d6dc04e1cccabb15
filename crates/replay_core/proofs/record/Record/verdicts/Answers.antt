use Rattle.std.proofs.Common.{◌∙◌}
use Rattle.replay_core.proofs.Viewing.{verdicts_seen}
use Rattle.replay_core.proofs.record.Record.verdicts.Goals as goal

pub returns : goal.returns
returns c = c.as_slice.ensures.value ∙ verdicts_seen _ _ _ _ _ _ _ c.self.invariant.0 c.self.view_is
