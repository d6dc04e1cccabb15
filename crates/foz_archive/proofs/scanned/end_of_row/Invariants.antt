use Rattle.std.proofs.Common.{◌≡◌, ◌+◌, List, length}
use Rattle.foz_entry.specs.declared.cut.Entry.{Entry}
use Rattle.foz_archive.proofs.Standing.{GoesOn}
use Rattle.foz_archive.proofs.scanned.end_of_row.Given as goal

abbrev pub invariant-loop-head : goal.invariant-loop-head
invariant-loop-head l = record {
  read : (entries : List Entry) × GoesOn l.from l.bytes entries l.place l.left;
  placed : l.place + length l.left ≡ l.from + length l.bytes;
}

abbrev pub decreases-loop-head : goal.decreases-loop-head
decreases-loop-head l = length l.left
