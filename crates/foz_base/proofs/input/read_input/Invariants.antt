use Rattle.std.proofs.Common.{◌≡◌, ◌≤◌, ◌++◌, length}
use Rattle.foz_base.specs.InputRead.{input_limit}
use Rattle.foz_base.proofs.input.read_input.Given as goal

abbrev pub invariant-pieces : goal.invariant-pieces
invariant-pieces g l = record {
  read : g.I.Source.tells → g.I.Source.left l.fn.input ≡ l.bytes.items ++ g.I.Source.left l.input;
  short : length l.bytes.items ≤ input_limit;
  buffer : length l.piece ≡ 65_536;
  counted : g.I.Source.faults l.fn.input ≤ g.I.Source.faults l.input;
}

abbrev pub decreases-pieces : goal.decreases-pieces
decreases-pieces g l = g.I.Source.bound l.input
