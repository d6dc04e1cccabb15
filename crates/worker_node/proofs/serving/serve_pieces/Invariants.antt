use Rattle.std.proofs.Common.{ℕ, ◌≡◌, ◌+◌, ◌^◌, ◌≤◌, ◌++◌, List, length}
use Rattle.worker_msg.specs.Frames.{spelling}
use Rattle.worker_msg.specs.Fronts.{IsPartial}
use Rattle.worker_msg.specs.Feeds.{given_to}
use Rattle.worker_msg.specs.declared.msg.Msg.TheVariants.{Hello}
use Rattle.worker_msg.specs.declared.side.Side.TheVariants.{Worker}
use Rattle.worker_node.specs.Steps.{IsCutting, IsWorking}
use Rattle.worker_node.proofs.serving.serve_pieces.Given as goal

abbrev pub invariant-pieces : goal.invariant-pieces
invariant-pieces g l = record {
  side : l.feed.side ≡ Worker;
  partial : IsPartial Worker l.feed.kept;
  room : given_to l.feed + g.I.Source.bound l.source ≤ 2 ^ 62;
  buffer : length l.piece ≡ 65_536;
  some : (taken : List ℕ) × IsCutting taken l.feed;
  cutting : g.I.Source.tells → (taken : List ℕ) × (g.I.Source.left l.fn.source ≡ taken ++ g.I.Source.left l.source) × IsCutting taken l.feed;
  working : g.I.Source.tells → g.O.Sink.tells → (start : List ℕ) → g.O.Sink.written l.fn.sink ≡ start ++ spelling Hello → (taken : List ℕ) × (g.I.Source.left l.fn.source ≡ taken ++ g.I.Source.left l.source)
      × IsWorking g.R.Driver.creates (g.R.Driver.meaning l.fn.driver) start taken l.feed (g.O.Sink.written l.sink) (record { marked = l.marked; meaning = g.R.Driver.meaning l.driver });
  source_later : g.I.Source.faults l.fn.source ≤ g.I.Source.faults l.source;
  sink_later : g.O.Sink.faults l.fn.sink ≤ g.O.Sink.faults l.sink;
}

abbrev pub decreases-pieces : goal.decreases-pieces
decreases-pieces g l = g.I.Source.bound l.source
