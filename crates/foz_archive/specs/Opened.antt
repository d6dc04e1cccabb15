-- How a file is opened: what is read, what the mending leaves, and why it is refused.
use Rattle.std.specs.Prelude.{◌≡◌, ℕ, Bool, true, false, List, [], ◌∷◌, length, Result, Ok, Err}
use Rattle.disk_model.specs.Disk.{History, LeavesOnly}
use Rattle.gate_append.specs.Gate.{IsClosedAt}
use Rattle.foz_entry.specs.declared.cut.Entry.{Entry}
use Rattle.foz_entry.specs.Limits.{header_len}
use Rattle.foz_archive.specs.Reading.{IsAccepted, IsNew, Holds, SomeFileHolds}
use Rattle.foz_archive.specs.Refusal.{IsRefusedToWrite}
use Rattle.foz_archive.specs.Kept.{Archived}
use Rattle.foz_archive.specs.declared.opening.OpenRefused.{OpenRefused}
use Rattle.foz_archive.specs.declared.opening.OpenCause.{OpenCause}
use Rattle.foz_archive.specs.declared.opening.OpenCause.TheVariants.{DiskFault, Archive, Memory}
use Rattle.foz_archive.specs.declared.opening.Start.{Start}
use Rattle.foz_archive.specs.declared.refusal.ReadError.{ReadError}
use Rattle.foz_archive.specs.declared.refusal.ReadError.TheVariants as read_errors

-- a file that was read and is still to be mended, as its callers see it
pub record Unmended (D : Type 0) : Type 0 where
  pub disk : D
  pub entries : List Entry
  pub end : ℕ

-- the content is a new file, or it is an archive of these entries
abbrev pub Begins : Bool → List ℕ → List Entry → ℕ → Type 0
Begins true content entries end = IsNew content × (entries ≡ []) × (end ≡ header_len)
Begins false content entries end = IsAccepted content entries end

-- what was read so that an archive can be made of it
pub record IsStart (tells_content : Type 0) (content : List ℕ) (start : Start) : Type 0 where
  pub begins : tells_content → Begins start.is_new content start.entries start.end
  pub some_file : SomeFileHolds start.entries start.end
  pub batch : start.batch.items ≡ 0 ∷ []

-- both files hold the same entries, so that neither is refused
pub record HoldAlike (old new : List ℕ) : Type 0 where
  pub entries : List Entry
  pub before : Holds old entries
  pub after : Holds new entries

-- the file is an archive, and ends with its closed gate
pub record IsClosedArchive (file : List ℕ) : Type 0 where
  pub entries : List Entry
  pub end : ℕ
  pub accepted : IsAccepted file entries end
  pub gate : IsClosedAt end file

-- A file is mended: a crash leaves at each moment what holds these entries, and an archive that its gate closes is only
-- read. Here `content` and `history` are what a disk tells.
pub record Mends {D : Type 0} (tells_content tells_images : Type 0) (content : D → List ℕ) (history : D → History) (old new : D) (entries : List Entry) : Type 0 where
  pub any_moment : tells_images → LeavesOnly (history old) (history new) (λ bytes. Holds bytes entries)
  pub untouched : tells_content → IsClosedArchive (content old) → content new ≡ content old
  pub only_read : tells_images → IsClosedArchive (content old) → LeavesOnly (history old) (history new) (λ bytes. bytes ≡ content old)

-- the archive has these entries, all of them stand in the file, and no commit failed
pub record IsJustOpened {D : Type 0} (read : List Entry) (place : ℕ) (archive : Archived D) : Type 0 where
  pub entries : archive.entries ≡ read
  pub end : archive.end ≡ place
  pub flushed : archive.flushed ≡ length archive.entries
  pub flushed_end : archive.flushed_end ≡ archive.end
  pub whole : archive.broken ≡ false

-- the file isn't opened for this cause: it isn't new, and is refused, or else the disk failed or there was no memory
abbrev pub IsUnopened : List ℕ → OpenCause → Type 0
IsUnopened file DiskFault = Unit {0}
IsUnopened file (Archive error) = IsRefusedToWrite file error × (¬ IsNew file)
IsUnopened file Memory = Unit {0}

-- the disk of the archive that was opened, or the one that is handed back
abbrev pub opened_disk : {D : Type 0} → Result (Archived D) (OpenRefused D) → D
opened_disk (Ok archive) = archive.disk
opened_disk (Err refused) = refused.disk

-- the disk of the file that was read, or the one that is handed back
abbrev pub unmended_disk : {D : Type 0} → Result (Unmended D) (OpenRefused D) → D
unmended_disk (Ok opening) = opening.disk
unmended_disk (Err refused) = refused.disk

abbrev pub open_cause_of : ReadError → OpenCause
open_cause_of read_errors.DiskFault = DiskFault
open_cause_of (read_errors.Archive error) = Archive error
open_cause_of read_errors.Memory = Memory
