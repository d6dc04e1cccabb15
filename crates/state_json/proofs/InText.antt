-- What serde_json reads in a text.
use Rattle.std.proofs.Common.{◌≡◌, ℕ, List, Some, None, inl, inr, refl}
use Rattle.std.specs.Str.{IsUtf8, is_utf8}
use Rattle.std.proofs.lemmas.Bool.{cases_Bool}
use Rattle.std.proofs.lemmas.Str.{is_utf8-from_IsUtf8, IsUtf8-from_is_utf8}
use Rattle.serde_json.specs.Data.{Data}
use Rattle.serde_json.specs.Read.{read}
use Rattle.state_json.specs.Parsed.{value_of_text}

pub read_in_text : (text : List ℕ) (d : Data) → IsUtf8 text → read text ≡ Some d → value_of_text text ≡ Some d
read_in_text text d utf8 is = rw (is_utf8-from_IsUtf8 text utf8, is) refl

pub not_read : (text : List ℕ) → (IsUtf8 text → read text ≡ None) → value_of_text text ≡ None
not_read text none = elim (cases_Bool (is_utf8 text)) [
  | inl so ↦ rw (so, none (IsUtf8-from_is_utf8 text so)) refl
  | inr not ↦ rw not refl
]
