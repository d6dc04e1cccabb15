-- How the reading of a file ends.
use Rattle.std.specs.Prelude.{◌≡◌, ℕ, ◌≤◌, List, length, All, Result, Ok, Err}
use Rattle.foz_entry.specs.declared.cut.Entry.{Entry}
use Rattle.foz_entry.specs.Limits.{count_limit}
use Rattle.foz_archive.specs.declared.refusal.ArchiveError.{ArchiveError}
use Rattle.foz_archive.specs.declared.scanned.Scanned.{Scanned}
use Rattle.foz_archive.specs.Reading.{IsReading}
use Rattle.foz_archive.specs.Refusal.{IsRefusedBy}
use Rattle.foz_base.specs.declared.stop.Stop.{Stop}
use Rattle.foz_base.specs.declared.stop.Stop.TheVariants.{ReadFault, Absent, Archive, Memory}
use Rattle.foz_base.specs.Outside.{File, absent, holds}

-- the file is there, and this is what is read of it
pub record IsFileReading (file : File) (scanned : Scanned) : Type 0 where
  pub bytes : List ℕ
  pub is_there : file ≡ holds bytes
  pub reading : IsReading bytes scanned

-- the file is there, and is refused for this reason
pub record IsFileRefused (file : File) (error : ArchiveError) : Type 0 where
  pub bytes : List ℕ
  pub is_there : file ≡ holds bytes
  pub refused : IsRefusedBy bytes error

-- What holds of each reading, whatever the outside tells: few entries, which end within the file, and whose payloads have the
-- sizes that their heads state.
pub record IsBounded (scanned : Scanned) : Type 0 where
  pub few : length scanned.entries ≤ count_limit
  pub within : scanned.end ≤ scanned.length
  pub sized : All (λ (entry : Entry). length entry.payload ≡ entry.head.size) scanned.entries

-- why a file could not be read; `fault` says that a count of faults rose
abbrev pub StopsReading : File → Type 0 → Stop → Type 0
StopsReading file fault Absent = file ≡ absent
StopsReading file fault (Archive error) = IsFileRefused file error
StopsReading file fault ReadFault = fault
StopsReading file fault Memory = Unit {0}
StopsReading file fault stop = ⊥

abbrev pub FileReads : File → Type 0 → Result Scanned Stop → Type 0
FileReads file fault (Ok scanned) = IsFileReading file scanned
FileReads file fault (Err stop) = StopsReading file fault stop

-- the same of every outside, also of one that tells nothing
abbrev pub ReadCauses : Type 0 → Stop → Type 0
ReadCauses fault Absent = Unit {0}
ReadCauses fault (Archive error) = Unit {0}
ReadCauses fault ReadFault = fault
ReadCauses fault Memory = Unit {0}
ReadCauses fault stop = ⊥
