use Rattle.std.proofs.Common.{◌≡◌, ℕ, ◌<◌, length, take, get_or}
use Rattle.disk_model.specs.Disk.{InSome}
use Rattle.disk_model.proofs.memory_disk.fill_ranges.Given as goal

abbrev pub invariant-loop-at : goal.invariant-loop-at
invariant-loop-at l = record {
  inside : (place : ℕ) → place < length l.initial.bytes → InSome (take l.at-index l.ranges) place → get_or l.bytes place 0 ≡ l.fill;
  outside : (place : ℕ) → ¬ InSome (take l.at-index l.ranges) place → get_or l.bytes place 0 ≡ get_or l.initial.bytes place 0;
}
