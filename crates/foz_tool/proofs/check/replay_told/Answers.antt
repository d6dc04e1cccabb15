use Rattle.foz_tool.proofs.Answered.{answered_status}
use Rattle.foz_tool.proofs.check.replay_told.Goals as goal

pub returns : goal.returns
returns g c = record {
  graph = c.in_ok-checked.checked.graph;
  core = c.in_ok-checked.checked.core;
  replayed = c.in_ok-checked.ensures;
  told = c.in_ok-told.ensures.text;
  status_is = answered_status _ _ (c.decided_is_answered.ensures _ _ _ c.in_ok-checked.ensures.replay.decided) c.in_ok-told.ensures.status;
}
