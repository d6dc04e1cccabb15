-- The command `hash`.
use Rattle.std.specs.Prelude.{◌≡◌, ℕ, List, if◌then◌else◌}
use Rattle.disk_model.specs.Faults.{Rose}
use Rattle.foz_text.specs.HashText.{hash_text, is_readable}
use Rattle.foz_base.specs.Ending.{Ended}
use Rattle.foz_base.specs.InputRead.{IsInputRead, StopsInput}
use Rattle.foz_base.specs.Outside.{Outside, Tells}

-- the text of the whole input, of which none is left; 0 says that no line is refused
pub record IsHashTold (before after : List ℕ) (text : List ℕ) (status : ℕ) : Type 0 where
  pub input : IsInputRead before after before
  pub text_is : text ≡ hash_text before
  pub status_is : status ≡ (if is_readable before then 0 else 1)

-- `hash` ended with this status
pub record Hashes (tells : Tells) {M : Type 0} (before after : Outside M) (status : ℕ) : Type 0 where
  pub ended : tells.input → tells.output → Ended (IsHashTold before.input after.input) (StopsInput before.input (Rose before.input_faults after.input_faults)) before after status
