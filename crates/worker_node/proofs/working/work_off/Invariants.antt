use Rattle.std.proofs.Common.{ℕ, ◌≡◌, ◌≤◌, List, length}
use Rattle.worker_msg.specs.Feeds.{given_to}
use Rattle.worker_msg.specs.declared.side.Side.TheVariants.{Worker}
use Rattle.worker_node.specs.Steps.{IsCutting, IsWorking}
use Rattle.worker_node.proofs.working.work_off.Given as goal

abbrev pub invariant-messages : goal.invariant-messages
invariant-messages g l = record {
  side : l.feed.side ≡ Worker;
  given : given_to l.feed ≡ given_to l.fn.feed;
  cutting : (taken : List ℕ) → IsCutting taken l.fn.feed → IsCutting taken l.feed;
  working : g.O.Sink.tells → (before : g.R.Driver.Meaning) (start taken : List ℕ)
      → IsWorking g.R.Driver.creates before start taken l.fn.feed (g.O.Sink.written l.fn.sink) (record { marked = l.fn.marked; meaning = g.R.Driver.meaning l.fn.driver })
      → IsWorking g.R.Driver.creates before start taken l.feed (g.O.Sink.written l.sink) (record { marked = l.marked; meaning = g.R.Driver.meaning l.driver });
  later : g.O.Sink.faults l.fn.sink ≤ g.O.Sink.faults l.sink;
}

abbrev pub decreases-messages : goal.decreases-messages
decreases-messages g l = length l.feed.kept
