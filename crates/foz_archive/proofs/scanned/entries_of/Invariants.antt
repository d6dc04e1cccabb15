use Rattle.std.proofs.Common.{◌≡◌, ◌+◌, ◌≤◌, length, drop}
use Rattle.foz_entry.specs.Limits.{count_limit}
use Rattle.foz_archive.proofs.Standing.{GoesOn}
use Rattle.foz_archive.proofs.scanned.entries_of.Given as goal

abbrev pub invariant-loop-head : goal.invariant-loop-head
invariant-loop-head l = record {
  stand : GoesOn 16 (drop 16 l.bytes) l.entries l.place l.rest;
  placed : l.place + length l.rest ≡ length l.bytes;
  rest : l.rest ≡ drop l.place l.bytes;
  few : length l.entries ≤ count_limit;
}

abbrev pub decreases-loop-head : goal.decreases-loop-head
decreases-loop-head l = length l.rest
