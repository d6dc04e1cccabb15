use Rattle.std.proofs.Common.{◌≡◌, false, All}
use Rattle.mem_slot.specs.Slots.{is_running}
use Rattle.crew_run.proofs.tests.slots_of.Given as goal

abbrev pub invariant-loop-place : goal.invariant-loop-place
invariant-loop-place l = record { at_rest : All (λ slot. is_running slot ≡ false) l.slots.items }
