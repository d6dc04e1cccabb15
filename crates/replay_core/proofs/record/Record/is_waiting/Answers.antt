use Rattle.replay_core.proofs.Viewing.{waits_read}
use Rattle.replay_core.proofs.record.Record.is_waiting.Goals as goal

pub returns-then-is_none : goal.returns-then-is_none
returns-then-is_none c = waits_read _ _ _ _ _ _ _ _ c.args.item c.index.result.now c.is_held.result c.self.invariant.0 c.self.view_is c.requires c.index.ensures c.if-is_none.ensures c.as_slice.ensures.value c.is_held.ensures
