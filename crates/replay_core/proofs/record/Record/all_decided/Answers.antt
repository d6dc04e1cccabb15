use Rattle.std.proofs.Common.{arith}
use Rattle.replay_core.proofs.Turning.{hands_seen, run_seen}
use Rattle.replay_core.proofs.Viewing.{decided_seen}
use Rattle.replay_core.proofs.record.Record.all_decided.Goals as goal

pub returns-clause-all : goal.returns-clause-all
returns-clause-all c = decided_seen _ _ _ _ _ _ _ _ c.len.result c.self.invariant.0 c.self.invariant.1 c.self.view_is (omega (arith, c.len.ensures, c.self.inside.verdicts.ok.0))

pub returns-clause-hands : goal.returns-clause-hands
returns-clause-hands c = hands_seen _ _ _ _ _ _ _ c.self.invariant.0 c.self.view_is

pub returns-clause-run : goal.returns-clause-run
returns-clause-run c = run_seen _ _ _ _ _ _ _ c.self.invariant.0 c.self.view_is
