-- What the lines of a capture may add, in any order, and what a crash leaves of it.
use Rattle.std.specs.Prelude.{◌≡◌, ℕ, ◌≤◌, List, ◌++◌, length, take}
use Rattle.disk_model.specs.Disk.{History, GoesOn, MightHaveLeft}
use Rattle.foz_words.specs.declared.key.Key.{Key}
use Rattle.foz_entry.specs.declared.cut.Entry.{Entry}
use Rattle.foz_entry.specs.Entries.{end_of, entry_of}
use Rattle.foz_archive.specs.Reading.{Holds}
use Rattle.record_words.specs.Story.{At, AreApart}
use Rattle.record_words.specs.Recorded.{Line, read}

module _ {Cause : Type 0} where
  -- the entry at place i is that of a line's key and payload
  pub record IsOfLine (lines : List (Line Cause)) (later : List Entry) (i : ℕ) (entry : Entry) : Type 0 where
    pub line : ℕ
    pub key : Key
    pub payload : List ℕ
    pub at : At lines line (read key payload)
    pub entry_is : entry ≡ entry_of (end_of (take i later)) key payload

  -- Entries of lines were added, no two of one key, and none of a key that was held.
  pub record AreAdded (before : List Entry) (lines : List (Line Cause)) (later : List Entry) : Type 0 where
    pub added : List Entry
    pub grown : later ≡ before ++ added
    pub apart : AreApart before later
    pub each : (i : ℕ) (entry : Entry) → length before ≤ i → At later i entry → IsOfLine lines later i entry

  -- There is one list of entries to which the lines add, and a crash at each moment from the one history to the other leaves
  -- a prefix of it, with all that was there before. So of two crashes one leaves a prefix of what the other leaves.
  pub record LeavesAdded (before : List Entry) (lines : List (Line Cause)) (old new : History) : Type 0 where
    pub later : List Entry
    pub are : AreAdded before lines later
    pub goes_on : GoesOn old new
    pub each : (bytes : List ℕ) → MightHaveLeft new old.moment bytes → (n : ℕ) × (length before ≤ n) × (n ≤ length later) × Holds bytes (take n later)
