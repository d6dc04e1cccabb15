-- What so many varints in a row are read as.
use Rattle.std.specs.Prelude.{ℕ, ◌≡◌, ◌+◌, ◌<◌, ◌≤◌, List, [], ◌∷◌, ◌++◌, length, Result, Ok, Err}
use Rattle.spirv_varint.specs.Varint.{GoOn, IsVarint}
use Rattle.spirv_varint.specs.declared.error.VarintError.{VarintError}
use Rattle.spirv_varint.specs.declared.error.VarintError.TheVariants.{Short, TooLarge, Extra, Memory}

-- the bytes are varints of these words in a row, and then the rest
unfoldable pub Splits : List ℕ → List ℕ → List ℕ → Type 0
Splits bytes [] rest = bytes ≡ rest
Splits bytes (word ∷ words) rest = (varint after : List ℕ) × IsVarint varint word × (bytes ≡ varint ++ after) × Splits after words rest

-- fewer words stand, and the bytes end before the next one does
pub record IsShort (bytes : List ℕ) (count at : ℕ) : Type 0 where
  pub words : List ℕ
  pub begun : List ℕ
  pub split : Splits bytes words begun
  pub fewer : length words < count
  pub goes_on : GoOn begun
  pub size : length begun ≤ 4
  pub place : at ≡ length bytes

-- fewer words stand, and the next one has a fifth byte above 15
pub record IsTooLarge (bytes : List ℕ) (count at : ℕ) : Type 0 where
  pub words : List ℕ
  pub begun : List ℕ
  pub fifth : ℕ
  pub more : List ℕ
  pub split : Splits bytes words (begun ++ fifth ∷ more)
  pub fewer : length words < count
  pub goes_on : GoOn begun
  pub size : length begun ≡ 4
  pub large : 15 < fifth
  pub place : at + length (fifth ∷ more) ≡ length bytes

-- all words stand, and bytes are left
pub record HasExtra (bytes : List ℕ) (count at : ℕ) : Type 0 where
  pub words : List ℕ
  pub first : ℕ
  pub more : List ℕ
  pub split : Splits bytes words (first ∷ more)
  pub all : length words ≡ count
  pub place : at + length (first ∷ more) ≡ length bytes

-- what reading so many words from the bytes answers
abbrev pub Answers : List ℕ → ℕ → Result (List ℕ) VarintError → Type 0
Answers bytes count (Ok words) = Splits bytes words [] × (length words ≡ count)
Answers bytes count (Err (Short at)) = IsShort bytes count at
Answers bytes count (Err (TooLarge at)) = IsTooLarge bytes count at
Answers bytes count (Err (Extra at)) = HasExtra bytes count at
Answers bytes count (Err Memory) = Unit {0}
