use Rattle.std.proofs.Common.{◌-◌, length}
use Rattle.replay_core.specs.Histories.{room_of}
use Rattle.check_run.proofs.Driven.{IsGoing}
use Rattle.check_run.proofs.run.run_items.Given as goal

abbrev pub invariant-items : goal.invariant-items
invariant-items g l = record {
  going : IsGoing g.R.Driver.creates (g.R.Driver.meaning l.fn.driver) l.entries l.graph l.core (g.R.Driver.meaning l.driver);
}

abbrev pub decreases-items : goal.decreases-items
decreases-items g l = room_of l.core.setup - length l.core.events
