-- The name of an entry point.
use Rattle.std.specs.Prelude.{ℕ, ◌≡◌, ◌≢◌, ◌==◌, if◌then◌else◌, Bool, true, false, List, [], ◌∷◌, ◌++◌, Option, Some, None}
use Rattle.std.specs.Option.{option_map}
use Rattle.std.specs.List.{AllByRecursion, flat_map}
use Rattle.foz_words.specs.Bytes.{le32}
use Rattle.spirv_check.specs.declared.shape.EntryPoint.{EntryPoint}

-- the bytes of the words, four a word, low byte first
unfoldable pub word_bytes : List ℕ → List ℕ
word_bytes words = flat_map le32 words

-- the bytes before the first zero byte, if there is one
unfoldable pub name_in : List ℕ → Option (List ℕ)
name_in [] = None
name_in (byte ∷ bytes) = if byte == 0 then Some [] else option_map (λ name. byte ∷ name) (name_in bytes)

-- the entry point that an OpEntryPoint declares, if it has a model, an id and a name that ends
unfoldable pub entry_in : List ℕ → Option EntryPoint
entry_in [] = None
entry_in (first ∷ []) = None
entry_in (first ∷ model ∷ []) = None
entry_in (first ∷ model ∷ id ∷ words) = option_map (λ name. record { model = model; name = name }) (name_in (word_bytes words))

abbrev pub NoZero : List ℕ → Type 0
NoZero bytes = AllByRecursion (λ byte. byte ≢ 0) bytes

-- the bytes were added up to the first zero byte, if there is one
abbrev pub AddsName : List ℕ → List ℕ → Bool → List ℕ → Type 0
AddsName old bytes true new = (added rest : List ℕ) × (bytes ≡ added ++ 0 ∷ rest) × NoZero added × (new ≡ old ++ added)
AddsName old bytes false new = NoZero bytes × (new ≡ old ++ bytes)
