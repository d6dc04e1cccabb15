-- Entries in a row, one after the other.
use Rattle.std.proofs.Common.{◌≡◌, ℕ, ◌+◌, ◌<◌, ◌≤◌, List, [], ◌∷◌, ◌++◌, length, drop, refl, subst, append_assoc, append-nil, length-append, length-drop, sum_by, zero-add, All, arith}
use Rattle.std.proofs.lemmas.List.Sums.{sum_by-append}
use Rattle.std.proofs.lemmas.List.Elements.{All-nil, All-cons}
use Rattle.foz_entry.specs.declared.cut.Cut.{Cut}
use Rattle.foz_entry.specs.declared.cut.Entry.{Entry}
use Rattle.foz_entry.specs.Whole.{IsWhole}
use Rattle.foz_entry.proofs.Heads.{length-whole}
use Rattle.foz_entry.specs.Entries.{end_of}
use Rattle.foz_archive.specs.Reading.{BeginsWithNone, Stand, IsAcceptedAs}

-- what is read so far: whatever stands in a row from a place on stands there after what was read
abbrev pub GoesOn : ℕ → List ℕ → List Entry → ℕ → List ℕ → Type 0
GoesOn from bytes before place rest = (entries : List Entry) (end : ℕ) → Stand place rest entries end → Stand from bytes (before ++ entries) end

pub goes_on : (from : ℕ) (bytes : List ℕ) (before : List Entry) (place next : ℕ) (rest after : List ℕ) (entry : Entry) → GoesOn from bytes before place rest
    → entry.offset ≡ place → IsWhole rest entry.head entry.payload after → next ≡ place + entry.head.total → GoesOn from bytes (before ++ entry ∷ []) next after
goes_on from bytes before place next rest after entry so_far at whole step = λ entries end stand.
    rw (append_assoc before (entry ∷ []) entries) (so_far (entry ∷ entries) end (at, (after, whole, rw (← step) stand)))

-- nothing more stands there
pub goes_on_none : (from : ℕ) (bytes : List ℕ) (before : List Entry) (place : ℕ) (rest : List ℕ) → GoesOn from bytes before place rest → BeginsWithNone rest → Stand from bytes before place
goes_on_none from bytes before place rest so_far none = subst (λ (es : List Entry). Stand from bytes es place) (append-nil before) (so_far [] place (refl, none))

-- more than so many stand there, where so many were read and one more stands at the beginning
pub goes_on_more : (from : ℕ) (bytes : List ℕ) (before : List Entry) (place count end : ℕ) (rest : List ℕ) → GoesOn from bytes before place rest → length before ≡ count
    → (head : Cut) (payload after : List ℕ) → IsWhole rest head payload after → (entries : List Entry) → Stand place rest entries end
    → (all : List Entry) × Stand from bytes all end × (count < length all)
goes_on_more from bytes before place count end rest so_far counted head payload after whole [] stand = absurd (stand.1 head payload after whole)
goes_on_more from bytes before place count end rest so_far counted head payload after whole (entry ∷ entries) stand =
    (before ++ entry ∷ entries, so_far (entry ∷ entries) end stand, omega (arith, length-append before (entry ∷ entries), counted))

-- entries in a row end within the bytes
end_within : (place : ℕ) (bytes : List ℕ) (entries : List Entry) (end : ℕ) → Stand place bytes entries end → end ≤ place + length bytes
end_within place bytes [] end stand = omega (arith, stand.0)
end_within place bytes (e ∷ entries) end stand =
    let rest = stand.1.0 in
    omega (arith, length-whole bytes e.payload rest e.head stand.1.1, end_within (place + e.head.total) rest entries end stand.1.2)

-- of each entry in a row the payload has the size that the head states
all_sized : (place : ℕ) (bytes : List ℕ) (entries : List Entry) (end : ℕ) → Stand place bytes entries end → All (λ (entry : Entry). length entry.payload ≡ entry.head.size) entries
all_sized place bytes [] end stand = All-nil (λ (entry : Entry). length entry.payload ≡ entry.head.size)
all_sized place bytes (e ∷ entries) end stand =
    All-cons (λ (entry : Entry). length entry.payload ≡ entry.head.size) e entries stand.1.1.sized (all_sized (place + e.head.total) stand.1.0 entries end stand.1.2)

-- and so the row ends where the payloads and as many heads do
stand_ends : (place : ℕ) (bytes : List ℕ) (entries : List Entry) (end : ℕ) → Stand place bytes entries end → place + sum_by (λ (e : Entry). 56 + length e.payload) entries ≡ end
stand_ends place bytes [] end stand = let e = stand.0 in omega arith
stand_ends place bytes (x ∷ xs) end stand =
    let whole = stand.1.1 in
    let parts : sum_by (λ (e : Entry). 56 + length e.payload) (x ∷ xs) ≡ sum_by (λ (e : Entry). 56 + length e.payload) (x ∷ []) + sum_by (λ (e : Entry). 56 + length e.payload) xs = sum_by-append (λ (e : Entry). 56 + length e.payload) (x ∷ []) xs in
    let one : sum_by (λ (e : Entry). 56 + length e.payload) (x ∷ []) ≡ 56 + length x.payload = zero-add (56 + length x.payload) in
    let further = stand_ends (place + x.head.total) stand.1.0 xs end stand.1.2 in
    let total = whole.begins.total in
    let sized = whole.sized in
    omega arith

module _ (versions file : List ℕ) (entries : List Entry) (end : ℕ) (accepted : IsAcceptedAs versions file entries end) where
  pub accepted_ends : end ≡ end_of entries
  unfolding end_of
  accepted_ends = let ends = stand_ends 16 _ entries end accepted.reads.stand in omega arith

  pub accepted_within : end ≤ length file
  accepted_within = omega (arith, end_within 16 (drop 16 file) entries end accepted.reads.stand, length-drop 16 file, accepted.reads.begins.has_magic.long)

  pub accepted_sized : All (λ (entry : Entry). length entry.payload ≡ entry.head.size) entries
  accepted_sized = all_sized 16 (drop 16 file) entries end accepted.reads.stand
