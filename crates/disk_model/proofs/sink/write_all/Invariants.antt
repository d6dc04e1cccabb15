use Rattle.std.proofs.Common.{◌≤◌, length}
use Rattle.disk_model.proofs.Pieces.{IsWrittenUpTo}
use Rattle.disk_model.proofs.sink.write_all.Given as goal

abbrev pub invariant-loop-rest : goal.invariant-loop-rest
invariant-loop-rest g l = record {
  written : g.O.Sink.tells → IsWrittenUpTo (g.O.Sink.written l.fn.sink) (g.O.Sink.written l.sink) l.text l.rest;
  counted : g.O.Sink.faults l.fn.sink ≤ g.O.Sink.faults l.sink;
}

abbrev pub decreases-loop-rest : goal.decreases-loop-rest
decreases-loop-rest g l = length l.rest
