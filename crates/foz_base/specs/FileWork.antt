-- Files that are written: what is found, what a work comes to, and what a crash leaves of it.
use Rattle.std.specs.Prelude.{◌≡◌, ℕ, ◌⊎◌, List, [], Option, Some, None, Result, Ok, Err}
use Rattle.disk_model.specs.Disk.{History, NothingPending, latest}
use Rattle.foz_entry.specs.declared.cut.Entry.{Entry}
use Rattle.record_dedup.specs.Kept.{IsArchiveOf}
use Rattle.foz_base.specs.declared.stop.Stop.{Stop}
use Rattle.foz_base.specs.declared.stop.Stop.TheVariants.{DiskFault, Archive, Memory}
use Rattle.foz_base.specs.Outside.{File, absent, holds, taken, IsSettledFile}

-- what a command that writes finds in a file: one that isn't there is made empty
abbrev pub bytes_of : File → List ℕ
bytes_of absent = []
bytes_of (holds bytes) = bytes
bytes_of taken = []

-- why a work on a file stops, of every outside; `fault` says that a count of faults rose
abbrev pub WriteCauses : Type 0 → Stop → Type 0
WriteCauses fault DiskFault = fault
WriteCauses fault (Archive error) = Unit {0}
WriteCauses fault Memory = Unit {0}
WriteCauses fault stop = ⊥

module _ {T : Type 0} (does : List ℕ → List ℕ → Result T Stop → Type 0) where
  -- the work was done on what the file held, and the file is there now
  pub record IsWorkedOn (before after : File) (result : Result T Stop) : Type 0 where
    pub bytes : List ℕ
    pub is_there : after ≡ holds bytes
    pub done : does (bytes_of before) bytes result

  -- Where the file couldn't be taken, or there was no memory to, the work wasn't begun.
  abbrev pub Writes : File → File → Result T Stop → Type 0
  Writes before after (Ok done) = IsWorkedOn before after (Ok done)
  Writes before after (Err (Archive error)) = IsWorkedOn before after (Err (Archive error))
  Writes before after (Err stop) = Unit {0}

-- the history of a file where a command began: one that wasn't there was made empty, with nothing pending
abbrev pub IsStart : Option History → History → Type 0
IsStart None start = NothingPending (latest start) × ((latest start).now ≡ [])
IsStart (Some history) start = start ≡ history

-- a work was done on a file, which was found at the start of that history
pub record IsWorkedSince (leaves : List ℕ → History → History → Type 0) (before : File) (old new : Option History) : Type 0 where
  pub start : History
  pub began : IsStart old start
  pub history : History
  pub is_there : new ≡ Some history
  pub left : leaves (bytes_of before) start history

-- Wherever a command stops: where nothing was pending on the file at its start, nothing was done to it, or a crash at each
-- moment since then leaves what the work may leave.
abbrev pub FileLeaves : (List ℕ → History → History → Type 0) → File → Option History → Option History → Type 0
FileLeaves leaves before old new = IsSettledFile old → (new ≡ old) ⊎ IsWorkedSince leaves before old new

-- the file is there, an archive of these entries that a closed gate ends
pub record IsArchiveFile (file : File) (entries : List Entry) : Type 0 where
  pub bytes : List ℕ
  pub is_there : file ≡ holds bytes
  pub archive : IsArchiveOf bytes entries
