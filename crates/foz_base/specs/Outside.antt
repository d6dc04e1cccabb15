-- What contracts see of the outside of the program.
use Rattle.std.specs.Prelude.{◌≡◌, ◌≢◌, ℕ, ◌⊎◌, List, Option, Some, None}
use Rattle.disk_model.specs.Disk.{History, NothingPending, latest}
use Rattle.disk_model.specs.Faults.{Rose}
use Rattle.disk_model.specs.Place.{Place, missing, stored, out}
use Rattle.foz_archive.specs.OnlyRead.{OnlyReads}
use Rattle.slot_log.specs.Views.{SlotView}

-- there is no file of a name, or one with this content, or it is taken
pub data File : Type 0 where
  absent : File
  holds : List ℕ → File
  taken : File

abbrev pub file_of : {H : Type 0} → (H → List ℕ) → Place H → File
file_of content missing = absent
file_of content (stored disk) = holds (content disk)
file_of content out = taken

-- the history of the disk of a name, where there is one
abbrev pub history_of : {H : Type 0} → (H → History) → Place H → Option History
history_of history missing = None
history_of history (stored disk) = Some (history disk)
history_of history out = None

-- how often the disk of a name has failed; where there is none it never has
abbrev pub faults_of : {H : Type 0} → (H → ℕ) → Place H → ℕ
faults_of faults missing = 0
faults_of faults (stored disk) = faults disk
faults_of faults out = 0

-- the files of a shelf, by their names
pub record Files : Type 0 where
  pub content : List ℕ → File
  pub history : List ℕ → Option History
  -- how often each disk has failed, and the shelf itself
  pub disk_faults : List ℕ → ℕ
  pub shelf_faults : ℕ

abbrev pub files_of : {H : Type 0} → (H → List ℕ) → (H → History) → (H → ℕ) → (List ℕ → Place H) → ℕ → Files
files_of content history faults places shelf_faults = record {
  content = λ name. file_of content (places name);
  history = λ name. history_of history (places name);
  disk_faults = λ name. faults_of faults (places name);
  shelf_faults = shelf_faults;
}

-- the outside, with a driver of such a meaning
pub record Outside (M : Type 0) : Type 0 where
  -- the bytes that the input still has
  pub input : List ℕ
  pub input_faults : ℕ
  pub written : List ℕ
  pub output_faults : ℕ
  pub files : Files
  -- the slots that the workers of a replay run in
  pub crew : List SlotView
  pub driver : M

-- what the objects of the outside tell: the input and the output their bytes, the files their content and their history
pub record Tells : Type 1 where
  pub input : Type 0
  pub output : Type 0
  pub content : Type 0
  pub images : Type 0

-- the shelf or the disk of this name has failed since
abbrev pub FileFaultRose : Files → Files → List ℕ → Type 0
FileFaultRose before after name = Rose before.shelf_faults after.shelf_faults ⊎ Rose (before.disk_faults name) (after.disk_faults name)

-- Every name but one keeps its disk, and what was here is here again, whatever was taken in between.
pub record WorksOn {H : Type 0} (tells : Type 0) (before after : List ℕ → Place H) (name : List ℕ) : Type 0 where
  pub others : tells → (other : List ℕ) → other ≢ name → after other ≡ before other
  pub back : tells → (other : List ℕ) → before other ≢ out → after other ≢ out

-- nothing was done to a file, or it was only read: what a crash may leave of it stays what it was
abbrev pub IsHistoryRead : Option History → Option History → Type 0
IsHistoryRead old new = (new ≡ old) ⊎ ((start history : History) × ((old ≡ Some start) × (new ≡ Some history) × OnlyReads start history))

-- a file keeps its content, and is only read
pub record IsFileOnlyRead (images : Type 0) (before after : Files) (name : List ℕ) : Type 0 where
  pub content : after.content name ≡ before.content name
  pub history : images → IsHistoryRead (before.history name) (after.history name)

-- nothing is pending on the file, if there is one
abbrev pub IsSettledFile : Option History → Type 0
IsSettledFile None = Unit {0}
IsSettledFile (Some history) = NothingPending (latest history)
