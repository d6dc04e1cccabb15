use Rattle.std.proofs.Common.{◌+◌, ◌≤◌, length}
use Rattle.report_words.specs.Fronts.{BeginsWith}
use Rattle.foz_text.proofs.HashLines.{IsHashedUpTo}
use Rattle.foz_text.proofs.hash_text.push_lines.Given as goal

abbrev pub invariant-loop-line : goal.invariant-loop-line
invariant-loop-line l = record {
  so_far : IsHashedUpTo l.capture l.fn.out.items l.out.items l.readable l.number l.rest;
  front : BeginsWith l.fn.out.items l.out.items;
  counted : l.number + length l.rest ≤ length l.capture;
}

abbrev pub decreases-loop-line : goal.decreases-loop-line
decreases-loop-line l = length l.rest
