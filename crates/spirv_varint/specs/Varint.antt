-- A word of 32 bits as one to five bytes, seven bits in each.
use Rattle.std.specs.Prelude.{ℕ, ◌≡◌, ◌≢◌, ◌+◌, ◌*◌, ◌/◌, ◌%◌, ◌<◌, ◌≤◌, ◌⊎◌, List, [], ◌∷◌, ◌++◌, length, nat_lt, if◌then◌else◌}
use Rattle.std.specs.List.{AllByRecursion, flat_map}
use Rattle.std.proofs.Common.{zero, suc}

-- the sum of the low seven bits of each byte, each seven above those before
unfoldable pub number_of : List ℕ → ℕ
number_of [] = 0
number_of (byte ∷ bytes) = byte % 128 + 128 * number_of bytes

-- bytes after each of which a varint goes on
abbrev pub GoOn : List ℕ → Type 0
GoOn bytes = AllByRecursion (λ byte. (128 ≤ byte) × (byte < 256)) bytes

-- up to four bytes that go on, and one that ends; the fifth has four bits left
pub record IsVarint (bytes : List ℕ) (word : ℕ) : Type 0 where
  pub front : List ℕ
  pub last : ℕ
  pub whole : bytes ≡ front ++ last ∷ []
  pub goes_on : GoOn front
  pub ends : last < 128
  pub size : length front ≤ 4
  pub fifth : length front ≡ 4 → last ≤ 15
  pub value : word ≡ number_of bytes

-- one byte, or a last byte that has bits of the word
pub record IsShortest (bytes : List ℕ) (word : ℕ) : Type 0 where
  pub varint : IsVarint bytes word
  pub useful : (length bytes ≡ 1) ⊎ (varint.last ≢ 0)

-- the varint of a word with at most so many bytes before the last, each of which has bits that are wanted
unfoldable pub shortest : ℕ → ℕ → List ℕ
shortest zero word = word ∷ []
shortest (suc more) word = if nat_lt word 128 then word ∷ [] else (128 + word % 128) ∷ shortest more (word / 128)

-- the shortest varint of a word
unfoldable pub varint : ℕ → List ℕ
varint word = shortest 4 word

-- the words in a row, each by its shortest varint
unfoldable pub spelling : List ℕ → List ℕ
spelling words = flat_map varint words
