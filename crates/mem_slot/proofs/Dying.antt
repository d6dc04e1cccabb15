-- How many deaths a log has, with one more note.
use Rattle.std.proofs.Common.{ℕ, ◌≡◌, ◌+◌, ◌<◌, ◌≤◌, ◌⊎◌, inl, inr, length, min, false, cond, List, [], ◌∷◌, ◌++◌, ap, ◌∙◌, arith}
use Rattle.std.specs.Prelude.{count_by}
use Rattle.std.proofs.lemmas.Bool.{cases_lt}
use Rattle.std.proofs.lemmas.List.{nil_from_length}
use Rattle.std.proofs.lemmas.List.Sums.{sum_by_push}
use Rattle.disk_model.specs.Faults.{Rose}
use Rattle.slot_log.specs.declared.note.SlotNote.{SlotNote}
use Rattle.slot_log.specs.declared.note.SlotNote.TheVariants.{Died}
use Rattle.mem_slot.specs.Slots.{is_death_note}

counted : (old new : List SlotNote) (n : SlotNote) → new ≡ old ++ n ∷ [] → count_by is_death_note new ≡ count_by is_death_note old + cond (is_death_note n) 1 0
counted old new n e = ap (count_by is_death_note) e ∙ sum_by_push (λ x. cond (is_death_note x) 1 0) old n

none_more : (n : ℕ) → n + 0 ≡ n
none_more n = omega arith

pub same_deaths : (old new : List SlotNote) (n : SlotNote) → new ≡ old ++ n ∷ [] → is_death_note n ≡ false → count_by is_death_note new ≡ count_by is_death_note old
same_deaths old new n e alive = counted old new n e ∙ (ap (λ b. count_by is_death_note old + cond b 1 0) alive ∙ none_more (count_by is_death_note old))

pub more_deaths : (old new : List SlotNote) → new ≡ old ++ Died ∷ [] → Rose (count_by is_death_note old) (count_by is_death_note new)
more_deaths old new e = let all = counted old new Died e in omega arith

-- why no bytes were given, or none noted

pub no_bytes : (piece left : List ℕ) (count : ℕ) → count ≡ min (length piece) (length left) → count ≡ 0 → 0 < length piece → left ≡ []
no_bytes piece left count c z some = nil_from_length left (omega arith)

pub no_room : (notes bytes size wanted : ℕ) → size ≡ wanted → ((2 ≤ notes) × (size ≤ bytes) → ⊥) → (notes < 2) ⊎ (bytes < wanted)
no_room notes bytes size wanted e full =
    elim (cases_lt notes 2) [
      | inl few ↦ inl few
      | inr enough ↦ elim (cases_lt bytes wanted) [ inl less ↦ inr less | inr more ↦ absurd (full (enough, omega arith)) ]
    ]
