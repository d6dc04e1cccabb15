use Rattle.std.proofs.Common.{◌≡◌, ℕ, ◌+◌, ◌<◌, [], length, get_or, filter}
use Rattle.record_team.specs.Told.{is_of}
use Rattle.record_team.specs.Merged.{Rise}
use Rattle.record_team.proofs.Merging.{HasMerged}
use Rattle.record_team.proofs.merge.merged.Given as goal

abbrev pub invariant-loop-number : goal.invariant-loop-number
invariant-loop-number g l = record {
  same : length l.told ≡ length l.fn.told;
  merged : (whole : _) → Rise 1 (l.count + 1) whole → ((thread : ℕ) → thread < length l.fn.told → get_or l.fn.told thread [] ≡ filter (is_of (length l.fn.told) thread) whole)
      → HasMerged (length l.fn.told) l.number l.count whole l.told l.all;
}
