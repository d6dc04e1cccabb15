-- The events that name a slot.
use Rattle.std.proofs.Common.{ℕ, ◌≡◌, ◌+◌, ◌<◌, ◌≤◌, Bool, true, List, [], ◌∷◌, ◌++◌, length, refl, ap, sym, ◌∙◌, subst, inl, inr, ◌⊎◌, arith}
use Rattle.std.specs.Prelude.{filter}
use Rattle.std.proofs.lemmas.List.Sums.{length-filter, count_by-le-length}
use Rattle.replay_core.specs.declared.event.Event.{Event}
use Rattle.replay_core.specs.declared.event.SlotState.{SlotState}
use Rattle.replay_core.specs.declared.event.SlotState.TheVariants.{Holds, Idle, Dead}
use Rattle.replay_core.specs.Runs.{names, slot_at}
use Rattle.replay_core.specs.Laws.{SlotEvents}

-- the state by all events is that by the events that name the slot
pub state_is : SlotEvents → (es : List Event) (s : SlotState) → slot_at (filter (names 0) es) 0 ≡ s → slot_at es 0 ≡ s
state_is law es s h = sym (law.state es 0) ∙ h

pub held_is : SlotEvents → (es : List Event) → (i : ℕ) × (slot_at (filter (names 0) es) 0 ≡ Holds i) → (i : ℕ) × (slot_at es 0 ≡ Holds i)
held_is law es h = (h.0, state_is law es (Holds h.0) h.1)

pub rest_is : SlotEvents → (es : List Event) → (slot_at (filter (names 0) es) 0 ≡ Dead) ⊎ (slot_at (filter (names 0) es) 0 ≡ Idle) → (slot_at es 0 ≡ Dead) ⊎ (slot_at es 0 ≡ Idle)
rest_is law es h = elim h [ inl dead ↦ inl (state_is law es Dead dead) | inr idle ↦ inr (state_is law es Idle idle) ]

pub few_named : (es : List Event) (room : ℕ) → length es ≤ room → room ≤ 3145744 → length (filter (names 0) es) ≤ 3145744
few_named es room l m =
    let number = length-filter (names 0) es in
    let most = count_by-le-length (names 0) es in
    omega arith
