use Rattle.std.proofs.Common.{◌≡◌, false, length, All}
use Rattle.mem_slot.specs.Slots.{is_running}
use Rattle.foz_runs.proofs.tests.crew_of.Given as goal

abbrev pub invariant-loop-place : goal.invariant-loop-place
invariant-loop-place l = record {
  count : length l.crew.items ≡ l.place-index;
  at_rest : All (λ slot. is_running slot ≡ false) l.crew.items;
}
