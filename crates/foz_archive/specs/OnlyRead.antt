-- Runs that only read a disk.
use Rattle.std.specs.Prelude.{◌≡◌, ℕ, ◌≤◌, List}
use Rattle.disk_model.specs.Disk.{History, IsImage, LeavesOnly, latest}

-- A run of calls that change nothing: what a crash may leave stays what it was.
pub record OnlyReads (old new : History) : Type 0 where
  pub run : LeavesOnly old new (IsImage (latest old))
  pub same : latest new ≡ latest old

-- Where told: a disk was only read, and its count of faults didn't fall. Here `content`, `history` and `faults` are what a
-- disk tells.
pub record IsOnlyRead {D : Type 0} (tells_content tells_images : Type 0) (content : D → List ℕ) (history : D → History) (faults : D → ℕ) (old new : D) : Type 0 where
  pub same_content : tells_content → content new ≡ content old
  pub images : tells_images → OnlyReads (history old) (history new)
  pub later : faults old ≤ faults new
