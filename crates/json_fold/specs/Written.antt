-- A plain value as JSON.
use Rattle.std.specs.Prelude.{ℕ, ◌^◌, ◌<◌, List, [], ◌∷◌, map, All, Option, Some, None, IfSome, ⊤}
use Rattle.foz_words.specs.Unit.{number_of}
use Rattle.foz_words.specs.Hex.{hex_text}
use Rattle.base64.specs.Engines.{standard}
use Rattle.base64.specs.GeneralPurpose.{encode_of, IsBytes}
use Rattle.serde_json.specs.Data as json
use Rattle.serde_json.specs.Data.{Data, Members, no_members, put}
use Rattle.serde_json.specs.View.{items_of}
use Rattle.vk_form.specs.Shape.{Shape, number, unit, hash, text, bytes, four_units, list, struct, Fields, end, field, optional, Plain, Plains}

abbrev pub whole : ℕ → Data
whole n = json.number (json.unsigned n)

-- with one member more, in the order of the names
unfoldable pub with_member : List ℕ → Data → Members → Members
with_member name d ms = put name d ms

-- with the member, where there is one
unfoldable pub with_optional : {A : Type 0} → List ℕ → (A → Data) → Option A → Members → Members
with_optional name write None ms = ms
with_optional name write (Some x) ms = with_member name (write x) ms

abbrev mutual
  pub written : (s : Shape) → Plain s → Data
  written number n = whole n
  written unit u = whole (number_of u)
  written hash h = json.string (hex_text 16 h)
  written text t = json.string t
  written bytes b = json.string (encode_of standard b)
  written four_units u = json.array (items_of (map (λ v. whole (number_of v)) (u.0 ∷ u.1.0 ∷ u.1.1.0 ∷ u.1.1.1 ∷ [])))
  written (list s) xs = json.array (items_of (map (written s) xs))
  written (struct fs) xs = json.object (members_with fs xs no_members)

  -- the members that stand already, and these
  pub members_with : (fs : Fields) → Plains fs → Members → Members
  members_with end xs ms = ms
  members_with (field name s fs) xs ms = members_with fs xs.1 (with_member name (written s xs.0) ms)
  members_with (optional name o fs) xs ms = members_with fs xs.1 (with_optional name (λ x. json.object (members_with o x no_members)) xs.0 ms)

-- numbers, hashes and bytes within their types
abbrev mutual
  pub IsInRange : (s : Shape) → Plain s → Type 0
  IsInRange number n = n < 2 ^ 32
  IsInRange unit u = ⊤
  IsInRange hash h = h < 2 ^ 64
  IsInRange text t = ⊤
  IsInRange bytes b = IsBytes b
  IsInRange four_units u = ⊤
  IsInRange (list s) xs = All (IsInRange s) xs
  IsInRange (struct fs) xs = AreInRange fs xs

  pub AreInRange : (fs : Fields) → Plains fs → Type 0
  AreInRange end xs = ⊤
  AreInRange (field name s fs) xs = IsInRange s xs.0 × AreInRange fs xs.1
  AreInRange (optional name o fs) xs = IfSome xs.0 (AreInRange o) × AreInRange fs xs.1
