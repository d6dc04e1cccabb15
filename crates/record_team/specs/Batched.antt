-- When a thread flushes: after each 64 of its records and at its end, and at no other time.
use Rattle.std.specs.Prelude.{◌≡◌, ℕ, ◌+◌, ◌<◌, List, [], ◌∷◌, ◌++◌}
use Rattle.record_words.specs.declared.note.FullNote.{FullNote}
use Rattle.record_words.specs.declared.note.RecordCall.{RecordCall}
use Rattle.record_words.specs.declared.note.RecordCall.TheVariants.{Record, Flush}

-- how many records wait after a call, where so many waited before it
abbrev pub IsStep : ℕ → RecordCall → ℕ → Type 0
IsStep before (Record key) after = (before < 64) × (after ≡ before + 1)
IsStep before Flush after = (before ≡ 64) × (after ≡ 0)

-- the same of the notes of one seat
abbrev pub Waits : ℕ → List FullNote → ℕ → Type 0
Waits before [] after = after ≡ before
Waits before (n ∷ notes) after = (between : ℕ) × IsStep before n.note.call between × Waits between notes after

-- all notes of a seat that has ended: batches of 64 records with a flush after each, what is left, and a flush
pub record AreBatches (notes : List FullNote) : Type 0 where
  pub batches : List FullNote
  pub left : ℕ
  pub waits : Waits 0 batches left
  pub few : left < 64
  pub last : FullNote
  pub flush : last.note.call ≡ Flush
  pub notes_are : notes ≡ batches ++ last ∷ []
