-- How the input is read to its end.
use Rattle.std.specs.Prelude.{◌≡◌, ℕ, ◌<◌, ◌≤◌, List, [], length, Result, Ok, Err}
use Rattle.foz_base.specs.declared.stop.Stop.{Stop}
use Rattle.foz_base.specs.declared.stop.Stop.TheVariants.{ReadFault, Memory, InputTooLong}

-- the most bytes that a command reads from its input
abbrev pub input_limit : ℕ
input_limit = 67_108_864

-- these were all bytes of the input, not too many, and none are left
pub record IsInputRead (before after bytes : List ℕ) : Type 0 where
  pub whole : bytes ≡ before
  pub short : length before ≤ input_limit
  pub none_left : after ≡ []

-- why the input could not be read; `fault` says that its count of faults rose
abbrev pub StopsInput : List ℕ → Type 0 → Stop → Type 0
StopsInput before fault ReadFault = fault
StopsInput before fault InputTooLong = input_limit < length before
StopsInput before fault Memory = Unit {0}
StopsInput before fault stop = ⊥

abbrev pub InputReads : List ℕ → List ℕ → Type 0 → Result (List ℕ) Stop → Type 0
InputReads before after fault (Ok bytes) = IsInputRead before after bytes
InputReads before after fault (Err stop) = StopsInput before fault stop

-- the same of every outside, also of one that tells nothing
abbrev pub InputCauses : Type 0 → Stop → Type 0
InputCauses fault ReadFault = fault
InputCauses fault InputTooLong = Unit {0}
InputCauses fault Memory = Unit {0}
InputCauses fault stop = ⊥
