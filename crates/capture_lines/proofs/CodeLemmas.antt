-- Words as bytes, and back.
use Rattle.std.proofs.Common.{◌≡◌, ℕ, suc, ◌+◌, ◌<◌, ◌≤◌, ◌^◌, List, [], ◌∷◌, ◌++◌, length, get_or, drop, Option, Some, None, refl, sym, ap, ◌∙◌, append_assoc, append-nil, arith}
use Rattle.std.specs.Prelude.{option_map, ◌≢◌}
use Rattle.std.specs.Int.{w32, from_le_bytes}
use Rattle.std.proofs.lemmas.Nat.{from_le_bytes-to_le_bytes_4}
use Rattle.foz_words.specs.Bytes.{le32}
use Rattle.capture_lines.specs.Code.{code_bytes, code_words, with_word}

-- words that were read, and those that follow them
abbrev pub in_front : List ℕ → Option (List ℕ) → Option (List ℕ)
in_front words more = option_map (λ ws. words ++ ws) more

pub nothing_in_front : (o : Option (List ℕ)) → in_front [] o ≡ o
nothing_in_front None = refl
nothing_in_front (Some ws) = refl

one_more : (words : List ℕ) (w : ℕ) (o : Option (List ℕ)) → in_front (words ++ w ∷ []) o ≡ in_front words (with_word w o)
one_more words w None = refl
one_more words w (Some ws) = ap (λ (l : List ℕ). Some l) (append_assoc words (w ∷ []) ws)

-- the bytes of a word spell it
code_words-le32 : (w : ℕ) (bytes : List ℕ) → w < 2 ^ 32 → code_words (le32 w ++ bytes) ≡ with_word w (code_words bytes)
unfolding code_words le32
code_words-le32 w bytes fits = ap (λ (n : ℕ). with_word n (code_words bytes)) (from_le_bytes-to_le_bytes_4 w fits)

-- the word at the beginning is read
pub first_read : (bytes : List ℕ) (w : ℕ) → w < 2 ^ 32 → bytes ≡ le32 w ++ drop 4 bytes → code_words bytes ≡ with_word w (code_words (drop 4 bytes))
first_read bytes w fits is = ap code_words is ∙ code_words-le32 w (drop 4 bytes) fits

-- one word more stands first
pub word_read : (words rest more : List ℕ) (w : ℕ) (found : Option (List ℕ)) → code_words rest ≡ with_word w (code_words more) → in_front words (code_words rest) ≡ found → in_front (words ++ w ∷ []) (code_words more) ≡ found
word_read words rest more w found is before = one_more words w (code_words more) ∙ ap (in_front words) (sym is) ∙ before

-- nothing is left
pub none_left : (words rest : List ℕ) (found : Option (List ℕ)) → length rest ≡ 0 → in_front words (code_words rest) ≡ found → Some words ≡ found
unfolding code_words
none_left words [] found is before = ap (λ (l : List ℕ). Some l) (sym (append-nil words)) ∙ before
none_left words (byte ∷ rest) found is before = absurd (omega arith)

-- the bytes of words spell the words
pub code_words-code_bytes : (words : List ℕ) → ((k : ℕ) → get_or words k 0 < 2 ^ 32) → code_words (code_bytes words) ≡ Some words
unfolding code_words
code_words-code_bytes [] fit = refl
code_words-code_bytes (w ∷ words) fit = code_words-le32 w (code_bytes words) (fit 0) ∙ ap (with_word w) (code_words-code_bytes words (λ k. fit (suc k)))

-- fewer than four bytes are no word
pub too_few : (bytes : List ℕ) → length bytes < 4 → length bytes ≢ 0 → code_words bytes ≡ None
unfolding code_words
too_few [] few some = absurd (some refl)
too_few (a ∷ []) few some = refl
too_few (a ∷ b ∷ []) few some = refl
too_few (a ∷ b ∷ c ∷ []) few some = refl
too_few (a ∷ b ∷ c ∷ d ∷ more) few some = absurd (omega arith)

-- a rest of the last bytes is left
pub some_left : (words rest : List ℕ) (found : Option (List ℕ)) → length rest < 4 → length rest ≢ 0 → in_front words (code_words rest) ≡ found → None ≡ found
some_left words rest found few some before = sym (ap (in_front words) (too_few rest few some)) ∙ before
