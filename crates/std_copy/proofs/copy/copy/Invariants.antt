use Rattle.std.proofs.Common.{◌≡◌, ◌≤◌, length}
use Rattle.std_copy.proofs.Copied.{IsCopied}
use Rattle.std_copy.proofs.copy.copy.Given as goal

abbrev pub invariant-pieces : goal.invariant-pieces
invariant-pieces g l = record {
  copied : g.I.Source.tells → g.O.Sink.tells → IsCopied (g.I.Source.left l.fn.input) (g.O.Sink.written l.fn.output) (g.I.Source.left l.input) (g.O.Sink.written l.output);
  buffer : length l.buffer ≡ 4096;
  reads : g.I.Source.faults l.fn.input ≤ g.I.Source.faults l.input;
  writes : g.O.Sink.faults l.fn.output ≤ g.O.Sink.faults l.output;
}

abbrev pub decreases-pieces : goal.decreases-pieces
decreases-pieces g l = g.I.Source.bound l.input
