-- The command `list`.
use Rattle.std.specs.Prelude.{◌≡◌, ℕ, List, if◌then◌else◌}
use Rattle.foz_archive.specs.declared.scanned.Scanned.{Scanned}
use Rattle.foz_text.specs.ListText.{list_text, is_flawless}
use Rattle.foz_base.specs.Ending.{Ended}
use Rattle.foz_base.specs.FileRead.{IsFileReading, StopsReading}
use Rattle.foz_base.specs.Outside.{File, Outside, Tells, FileFaultRose, IsFileOnlyRead}

-- the text of what is read of the file; 0 says that each line is `ok`
pub record IsListTold (file : File) (text : List ℕ) (status : ℕ) : Type 0 where
  pub scanned : Scanned
  pub reading : IsFileReading file scanned
  pub text_is : text ≡ list_text scanned
  pub status_is : status ≡ (if is_flawless scanned then 0 else 1)

-- `list` of this file ended with this status
pub record Lists (tells : Tells) {M : Type 0} (before after : Outside M) (file : List ℕ) (status : ℕ) : Type 0 where
  pub ended : tells.content → tells.output
      → Ended (IsListTold (before.files.content file)) (StopsReading (before.files.content file) (FileFaultRose before.files after.files file)) before after status
  pub only_read : tells.content → IsFileOnlyRead tells.images before.files after.files file
