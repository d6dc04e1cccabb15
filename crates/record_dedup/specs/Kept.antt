-- What a book is, and what is known of it at each moment.
use Rattle.std.specs.Prelude.{◌≡◌, ◌⊎◌, ℕ, ◌+◌, ◌≤◌, Bool, true, false, List, length, take, Result, Ok, Err}
use Rattle.disk_model.specs.Disk.{History, latest, IsImage, NothingPending, MightHaveLeft, GoesOn}
use Rattle.disk_model.specs.Faults.{Rose}
use Rattle.foz_entry.specs.declared.cut.Entry.{Entry}
use Rattle.foz_entry.specs.Entries.{end_of}
use Rattle.gate_append.specs.Gate.{IsClosedAt}
use Rattle.foz_archive.specs.Reading.{Holds, IsAccepted}
use Rattle.foz_archive.specs.Kept.{Archived}
use Rattle.foz_archive.specs.declared.opening.OpenRefused.{OpenRefused}
use Rattle.record_words.specs.declared.state.RecorderState.{RecorderState}

-- a book as its callers see it
pub record Booked (D : Type 0) : Type 0 where
  pub disk : D
  -- all entries in file order, those that wait for the next flush last
  pub entries : List Entry
  -- how many of them stand in the file
  pub flushed : ℕ
  -- a flush failed
  pub broken : Bool
  -- the disk as the opening began, and how many entries there were after it: no call changes these
  pub began : D
  pub opened : ℕ

-- the book over an archive
abbrev pub booked : {D : Type 0} → Archived D → D → ℕ → Booked D
booked archive began opened = record { disk = archive.disk; entries = archive.entries; flushed = archive.flushed; broken = archive.broken; began = began; opened = opened }

-- the disk of the book that was opened, or the one that is handed back
abbrev pub disk_of : {D : Type 0} → Result (Booked D) (OpenRefused D) → D
disk_of (Ok book) = book.disk
disk_of (Err refused) = refused.disk

-- a book as a recorder
abbrev pub recorder_of : {D : Type 0} → Booked D → RecorderState
recorder_of book = record { entries = book.entries; flushed = book.flushed; broken = book.broken }

-- the bytes are an archive of these entries, and a closed gate ends them
pub record IsArchiveOf (bytes : List ℕ) (entries : List Entry) : Type 0 where
  pub end : ℕ
  pub accepted : IsAccepted bytes entries end
  pub gate : IsClosedAt end bytes

-- where told: the file is an archive of these entries, one byte stands after them, and nothing is pending
pub record IsWritten (tells_content tells_images : Type 0) (content : List ℕ) (history : History) (entries : List Entry) : Type 0 where
  pub archive : tells_content → IsArchiveOf content entries
  pub held : tells_content → Holds content entries
  pub long : tells_content → length content ≡ end_of entries + 1
  pub settled : tells_images → NothingPending (latest history)

-- the file holds the first entries, at least those of the opening
abbrev pub HoldsSome : {D : Type 0} → Booked D → List ℕ → Type 0
HoldsSome book bytes = (n : ℕ) × (book.opened ≤ n) × (n ≤ length book.entries) × Holds bytes (take n book.entries)

-- What is known of each book. Here `content`, `history` and `faults` are what a disk tells.
pub record IsKept {D : Type 0} (tells_content tells_images : Type 0) (content : D → List ℕ) (history : D → History) (faults : D → ℕ) (book : Booked D) : Type 0 where
  pub written : book.broken ≡ false → IsWritten tells_content tells_images (content book.disk) (history book.disk) (take book.flushed book.entries)
  pub opened : book.opened ≤ book.flushed
  pub flushed : book.flushed ≤ length book.entries
  -- the disk failed since the opening began, if the book is broken
  pub later : faults book.began ≤ faults book.disk
  pub fault : book.broken ≡ true → Rose (faults book.began) (faults book.disk)
  -- what a crash may leave now, and what it might have left since the opening began and not before
  pub now : tells_images → (bytes : List ℕ) → IsImage (latest (history book.disk)) bytes → Holds bytes (take book.flushed book.entries) ⊎ Holds bytes book.entries
  pub goes_on : tells_images → GoesOn (history book.began) (history book.disk)
  pub since : tells_images → (bytes : List ℕ) → MightHaveLeft (history book.disk) (history book.began).moment bytes → IsImage (latest (history book.began)) bytes ⊎ HoldsSome book bytes
