-- The batches in which lines are recorded.
use Rattle.std.specs.Prelude.{◌⊎◌, ℕ, ◌+◌, ◌*◌, ◌≤◌, List, [], ◌∷◌, take}
use Rattle.disk_model.specs.Disk.{History, latest, IsImage, GoesOn}
use Rattle.foz_entry.specs.declared.cut.Entry.{Entry}
use Rattle.foz_archive.specs.Reading.{Holds}
use Rattle.record_words.specs.Recorded.{Line, skipped, refused, read}
use Rattle.record_words.specs.Added.{Element, added_to}

-- so many records make a batch
abbrev pub batch_size : ℕ
batch_size = 64

-- whatever a crash leaves now holds these entries
abbrev pub AreDurable : History → List Entry → Type 0
AreDurable history entries = (bytes : List ℕ) → IsImage (latest history) bytes → Holds bytes entries

module _ {Cause : Type 0} where
  -- the records of lines: each line that is read has one
  abbrev pub records_of : List (Line Cause) → List Element
  records_of [] = []
  records_of (skipped ∷ lines) = records_of lines
  records_of (refused cause ∷ lines) = records_of lines
  records_of (read key payload ∷ lines) = (key, payload) ∷ records_of lines

  -- the entries once so many batches of the lines were recorded in order, the last of which may be short
  abbrev pub after_batches : List Entry → List (Line Cause) → ℕ → List Entry
  after_batches before lines n = added_to before (take (n * batch_size) (records_of lines))

  -- A crash at each moment from the one history to the other leaves the entries after so many batches, or after one more.
  -- So never more than one batch is at stake, and of two crashes one leaves a prefix of what the other leaves.
  pub record LeavesBatches (before : List Entry) (lines : List (Line Cause)) (old new : History) : Type 0 where
    pub goes_on : GoesOn old new
    pub each : (moment : ℕ) → old.moment ≤ moment → moment ≤ new.moment
        → (n : ℕ) × ((bytes : List ℕ) → IsImage (new.at moment) bytes → Holds bytes (after_batches before lines n) ⊎ Holds bytes (after_batches before lines (n + 1)))
