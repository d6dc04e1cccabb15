-- An archive that is being written.
use Rattle.std.specs.Prelude.{ℕ, ◌+◌, ◌-◌, ◌≤◌, Bool, List, [], ◌∷◌, length, drop}
use Rattle.disk_model.specs.Disk.{History}
use Rattle.gate_append.specs.Gate.{IsAtRest}
use Rattle.foz_entry.specs.declared.cut.Entry.{Entry}
use Rattle.foz_archive.specs.Reading.{InRow, IsAccepted}

-- an archive as its callers see it
pub record Archived (D : Type 0) : Type 0 where
  pub disk : D
  -- all entries in file order, those that wait for the next commit last
  pub entries : List Entry
  -- how many of them stand in the file
  pub flushed : ℕ
  -- where those end, and where all will end
  pub flushed_end : ℕ
  pub end : ℕ
  -- a call of the disk failed in a commit
  pub broken : Bool

-- where told: these entries are in the content, a closed gate stands after them, and nothing is pending
pub record IsSettled (tells_content tells_images : Type 0) (content : List ℕ) (history : History) (entries : List Entry) (end : ℕ) : Type 0 where
  pub at_rest : IsAtRest tells_content tells_images content history end
  pub accepted : tells_content → IsAccepted content entries end

-- the batch has the bytes of the entries that wait, and after them the gate that is to close the file
pub record IsWaiting (flushed_end : ℕ) (batch : List ℕ) (entries : List Entry) (flushed : ℕ) : Type 0 where
  pub row : InRow flushed_end batch (drop flushed entries) (flushed_end + (length batch - 1)) (0 ∷ [])
  pub some : 1 ≤ length batch
  pub counted : flushed ≤ length entries
