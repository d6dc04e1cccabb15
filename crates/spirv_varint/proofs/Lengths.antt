-- How long rows of varints are.
use Rattle.std.proofs.Common.{ℕ, zero, suc, ◌+◌, ◌*◌, ◌/◌, ◌^◌, ◌<◌, ◌≤◌, inl, inr, List, [], ◌∷◌, length, get_or, Ok, refl, ap, length-append, arith}
use Rattle.std.specs.Prelude.{All}
use Rattle.std.proofs.lemmas.Bool.{cases_lt}
use Rattle.std.proofs.lemmas.List.{get_or_past}
use Rattle.std.proofs.lemmas.List.Concat.{flat_map-cons}
use Rattle.spirv_varint.specs.Varint.{shortest, varint, spelling}
use Rattle.spirv_varint.specs.Reading.{Splits, Answers}
use Rattle.spirv_varint.proofs.Shortest.{shortest-small, shortest-large, spelling_splits}

length-shortest : (more word : ℕ) → length (shortest more word) ≤ more + 1
unfolding shortest
length-shortest zero word = omega arith
length-shortest (suc more) word =
    elim (cases_lt word 128) [
      | inl small ↦ rw (shortest-small (suc more) word small) (omega arith)
      | inr large ↦ let rest = length-shortest more (word / 128) in rw (shortest-large more word large) (omega arith)
    ]

length-varint : (word : ℕ) → length (varint word) ≤ 5
unfolding varint
length-varint word = length-shortest 4 word

pub length-spelling : (words : List ℕ) → length (spelling words) ≤ 5 * length words
unfolding spelling
length-spelling [] = omega arith
length-spelling (word ∷ words) =
    let rest = length-spelling words in
    omega (arith, rest, length-varint word, ap length (flat_map-cons varint word words), length-append (varint word) (spelling words))

-- each varint has a byte
pub Splits-length : (words bytes rest : List ℕ) → Splits bytes words rest → length words + length rest ≤ length bytes
unfolding Splits
Splits-length [] bytes rest s = omega (arith, ap length s)
Splits-length (word ∷ words) bytes rest s =
    let v = s.2 in
    let more = Splits-length words s.1 rest s.4 in
    omega (arith, more, ap length s.3, length-append s.0 s.1, ap length v.whole, length-append v.front (v.last ∷ []))

pub spelling_read : (words : List ℕ) → All (λ word. word < 2 ^ 32) words → Answers (spelling words) (length words) (Ok words)
spelling_read words fits = (spelling_splits words below, refl)
  where
    below : (k : ℕ) → get_or words k 0 < 2 ^ 32
    below k = elim (cases_lt k (length words)) [
      | inl inside ↦ fits k 0 inside
      | inr past ↦ rw (get_or_past words k 0 past) (omega arith)
    ]
