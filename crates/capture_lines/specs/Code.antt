-- Words as bytes, four a word, low byte first.
use Rattle.std.specs.Prelude.{ℕ, List, [], ◌∷◌, Option, Some, None, option_map}
use Rattle.std.specs.List.{flat_map}
use Rattle.std.specs.Int.{w32, from_le_bytes}
use Rattle.foz_words.specs.Bytes.{le32}

-- the bytes of the words, one word after the other
abbrev pub code_bytes : List ℕ → List ℕ
code_bytes words = flat_map le32 words

abbrev pub with_word : ℕ → Option (List ℕ) → Option (List ℕ)
with_word word more = option_map (λ words. word ∷ words) more

-- the words that the bytes spell, unless they are no whole number of words
unfoldable pub code_words : List ℕ → Option (List ℕ)
code_words [] = Some []
code_words (a ∷ []) = None
code_words (a ∷ b ∷ []) = None
code_words (a ∷ b ∷ c ∷ []) = None
code_words (a ∷ b ∷ c ∷ d ∷ more) = with_word (from_le_bytes w32 (a ∷ b ∷ c ∷ d ∷ [])) (code_words more)
