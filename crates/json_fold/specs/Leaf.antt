-- What a member's value is, or why it is none.
use Rattle.std.specs.Prelude.{ℕ, ◌^◌, List, Option, Some, None, option_and_then, is_some, Result, Ok, Err, nat_lt, if◌then◌else◌, ⊤}
use Rattle.foz_words.specs.declared.unit.Unit.{Unit}
use Rattle.foz_words.specs.declared.unit.Unit.TheVariants.{Zero, One}
use Rattle.foz_words.specs.Hex.{hex16_value}
use Rattle.base64.specs.Engines.{standard}
use Rattle.base64.specs.GeneralPurpose.{decoded_of}
use Rattle.serde_json.specs.Data.{Data, Items}
use Rattle.serde_json.specs.Find.{as_number, as_u64, as_str, as_array, as_object}
use Rattle.json_fold.specs.declared.fault.FieldCause.{FieldCause}
use Rattle.json_fold.specs.declared.fault.FieldCause.TheVariants.{NotNumber, TooLarge, NotUnit, NotText, NotList, NotObject, BadHash, BadBase64}

-- the value, or the cause where there is none
abbrev pub or_cause : {A : Type 0} → FieldCause → Option A → Result A FieldCause
or_cause cause (Some x) = Ok x
or_cause cause None = Err cause

infixl 10 ◌then◌
abbrev pub ◌then◌ : {A B : Type 0} → Result A FieldCause → (A → Result B FieldCause) → Result B FieldCause
(Ok x) then f = f x
(Err cause) then f = Err cause

-- a whole number from 0 that a u64 holds
abbrev pub whole_of : Data → Result ℕ FieldCause
whole_of d = or_cause NotNumber (option_and_then as_u64 (as_number d))

unfoldable pub number_of : Data → Result ℕ FieldCause
number_of d = whole_of d then λ n. if nat_lt n (2 ^ 32) then Ok n else Err TooLarge

abbrev pub unit_from : ℕ → Result Unit FieldCause
unit_from n = if nat_lt n 1 then Ok Zero else (if nat_lt n 2 then Ok One else Err NotUnit)

unfoldable pub unit_of : Data → Result Unit FieldCause
unit_of d = whole_of d then unit_from

abbrev pub text_of : Data → Result (List ℕ) FieldCause
text_of d = or_cause NotText (as_str d)

unfoldable pub hash_of : Data → Result ℕ FieldCause
hash_of d = text_of d then λ t. or_cause BadHash (hex16_value t)

unfoldable pub bytes_of : Data → Result (List ℕ) FieldCause
bytes_of d = text_of d then λ t. or_cause BadBase64 (decoded_of standard t)

abbrev pub items_of : Data → Result Items FieldCause
items_of d = or_cause NotList (as_array d)

abbrev pub is_object : Data → Result ⊤ FieldCause
is_object d = if is_some (as_object d) then Ok tt else Err NotObject
