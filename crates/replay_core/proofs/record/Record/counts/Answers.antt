use Rattle.replay_core.proofs.Viewing.{few_events, tally_seen}
use Rattle.replay_core.proofs.record.Record.counts.Goals as goal

pub returns-clause-counts : goal.returns-clause-counts
returns-clause-counts c = tally_seen _ _ _ _ _ _ _ _ c.self.invariant.0 c.self.invariant.1 c.self.view_is

pub returns-clause-few : goal.returns-clause-few
returns-clause-few c = few_events _ _ _ _ _ _ c.self.inside.counts c.self.invariant.0 c.self.invariant.1
