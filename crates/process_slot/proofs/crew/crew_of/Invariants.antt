use Rattle.std.proofs.Common.{◌≡◌, ◌≤◌, ◌-◌, false, is_some, All, length}
use Rattle.process_slot.proofs.crew.crew_of.Given as goal

abbrev pub invariant-slots : goal.invariant-slots
invariant-slots g l = record {
  few : length l.crew.items ≤ l.count;
  at_rest : All (λ slot. is_some slot.worker ≡ false) l.crew.items;
}

abbrev pub decreases-slots : goal.decreases-slots
decreases-slots g l = l.count - length l.crew.items
