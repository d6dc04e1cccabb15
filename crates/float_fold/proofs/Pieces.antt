-- Pieces stand in the bytes, one after the other.
use Rattle.std.proofs.Common.{ℕ, zero, suc, ◌≡◌, ◌+◌, ◌-◌, ◌<◌, ◌≤◌, min, Bool, true, false, ◌||◌, cond, eqb, List, [], ◌∷◌, ◌++◌, length, get_or, take, drop, Option, Some, None, inl, inr, refl, ap, sym, ◌∙◌, length-append, arith}
use Rattle.std.proofs.lemmas.Bool.{cases_lt}
use Rattle.std.proofs.lemmas.List.{take_at, take_all, drop_more, drop_all, drop-drop, length-drop, get_or-drop, take-append-drop}
use Rattle.std.specs.List.{take_while, prefix_len, slice_range}
use Rattle.memchr.specs.Find.{IsFirstByte, Nowhere, Passes, is_byte2}
use Rattle.float_fold.specs.Pieces.{begins_number, goes_on_number, text_rest, piece_rest, pieces_behind, pieces}

-- the beginning of some bytes, and what stands after it
pub record Begins (front bytes : List ℕ) : Type 0 where
  pub behind : List ℕ
  pub whole : bytes ≡ front ++ behind

Begins-more : (byte : ℕ) (front bytes : List ℕ) → Begins front bytes → Begins (byte ∷ front) (byte ∷ bytes)
Begins-more byte front bytes b = record { behind = b.behind; whole = ap (λ bs. byte ∷ bs) b.whole }

text_rest-begins : (escaped : Bool) (bytes : List ℕ) → Begins (text_rest escaped bytes) bytes
unfolding text_rest
text_rest-begins escaped [] = record { behind = []; whole = refl }
text_rest-begins true (byte ∷ bytes) = Begins-more byte (text_rest false bytes) bytes (text_rest-begins false bytes)
text_rest-begins false (byte ∷ bytes) =
    elim (eqb byte 34) as (λ quote. Begins (byte ∷ cond quote [] (text_rest (eqb byte 92) bytes)) (byte ∷ bytes)) [
      | true ↦ record { behind = bytes; whole = refl }
      | false ↦ Begins-more byte (text_rest (eqb byte 92) bytes) bytes (text_rest-begins (eqb byte 92) bytes)
    ]

pub piece_rest-begins : (byte : ℕ) (bytes : List ℕ) → Begins (piece_rest byte bytes) bytes
unfolding piece_rest
piece_rest-begins byte bytes =
    elim (eqb byte 34) as (λ quote. Begins (cond quote (text_rest false bytes) (cond (begins_number byte) (take_while goes_on_number bytes) [])) bytes) [
      | true ↦ text_rest-begins false bytes
      | false ↦ elim (begins_number byte) as (λ number. Begins (cond number (take_while goes_on_number bytes) []) bytes) [
        | true ↦ record { behind = drop (prefix_len goes_on_number bytes) bytes; whole = sym (take-append-drop (prefix_len goes_on_number bytes) bytes) }
        | false ↦ record { behind = bytes; whole = refl }
      ]
    ]

pub length-piece_rest : (byte : ℕ) (bytes : List ℕ) → length (piece_rest byte bytes) ≤ length bytes
length-piece_rest byte bytes =
    let b = piece_rest-begins byte bytes in
    omega (arith, ap length b.whole, length-append (piece_rest byte bytes) b.behind)

pub take-piece_rest : (byte : ℕ) (bytes : List ℕ) → take (length (piece_rest byte bytes)) bytes ≡ piece_rest byte bytes
take-piece_rest byte bytes =
    let b = piece_rest-begins byte bytes in
    ap (take (length (piece_rest byte bytes))) b.whole ∙ take_at (piece_rest byte bytes) b.behind (length (piece_rest byte bytes)) refl

pub pieces_behind-drop : (skipped : ℕ) (bytes : List ℕ) → pieces_behind skipped bytes ≡ pieces (drop skipped bytes)
unfolding pieces_behind
pieces_behind-drop zero bytes = refl
pieces_behind-drop (suc skipped) [] = refl
pieces_behind-drop (suc skipped) (byte ∷ bytes) = pieces_behind-drop skipped bytes

pub pieces-cons : (byte : ℕ) (bytes : List ℕ) → pieces (byte ∷ bytes) ≡ (byte ∷ piece_rest byte bytes) ∷ pieces (drop (length (piece_rest byte bytes)) bytes)
unfolding pieces_behind
pieces-cons byte bytes = ap (λ ps. (byte ∷ piece_rest byte bytes) ∷ ps) (pieces_behind-drop (length (piece_rest byte bytes)) bytes)

-- ---- the end of a text, mark by mark

-- the first quote or backslash, if any
abbrev pub IsMark : List ℕ → Option ℕ → Type 0
IsMark bytes found = IsFirstByte (is_byte2 34 92) bytes found

plain_byte : (b : ℕ) (bs : List ℕ) (quote backslash : Bool) → eqb b 34 ≡ quote → eqb b 92 ≡ backslash → ((quote || backslash) ≡ true → ⊥) → length (text_rest false (b ∷ bs)) ≡ suc (length (text_rest false bs))
unfolding text_rest
plain_byte b bs true backslash q e plain = absurd (plain refl)
plain_byte b bs false true q e plain = absurd (plain refl)
plain_byte b bs false false q e plain = rw (q, e) refl

-- a text goes on over bytes without a mark
plain_bytes : (n : ℕ) (bytes : List ℕ) → n ≤ length bytes → Nowhere (Passes (is_byte2 34 92) bytes) 0 n → length (text_rest false bytes) ≡ n + length (text_rest false (drop n bytes))
plain_bytes zero bytes le plain = omega arith
plain_bytes (suc n) [] le plain = absurd (omega arith)
plain_bytes (suc n) (b ∷ bs) le plain =
    let first = plain_byte b bs (eqb b 34) (eqb b 92) refl refl (plain 0 (omega arith) (omega arith)) in
    let others = plain_bytes n bs (omega arith) (λ k low high mark. plain (suc k) (omega arith) (omega arith) mark) in
    omega (arith, first, others)

-- the text goes on so far, and from there as far as what is left tells
pub record Walked (bytes : List ℕ) (at : ℕ) : Type 0 where
  pub within : at ≤ length bytes
  pub same : length (text_rest false bytes) ≡ at + length (text_rest false (drop at bytes))

pub walked_none : (bytes : List ℕ) → Walked bytes 0
walked_none bytes = record { within = omega arith; same = omega arith }

text_rest-none : (escaped : Bool) → length (text_rest escaped []) ≡ 0
unfolding text_rest
text_rest-none escaped = refl

module _ (bytes : List ℕ) (at : ℕ) (w : Walked bytes at) where
  -- no mark is left
  pub walked_over : IsMark (drop at bytes) None → length bytes ≡ length (text_rest false bytes)
  walked_over none =
      let within = w.within in
      let same = w.same in
      let rest = drop at bytes in
      let run = plain_bytes (length rest) rest (omega arith) none in
      let over : length (text_rest false (drop (length rest) rest)) ≡ 0 = rw (drop_all (length rest) rest (omega arith)) (text_rest-none false) in
      omega (arith, run, over, length-drop at bytes)

  pub mark_within : (plain : ℕ) → IsMark (drop at bytes) (Some plain) → at + plain < length bytes
  mark_within plain is = let first = is.0 in let high = first.high in omega (arith, length-drop at bytes)

  pub walked_to_mark : (plain : ℕ) → IsMark (drop at bytes) (Some plain) → Walked bytes (at + plain)
  walked_to_mark plain is =
      let first = is.0 in
      let high = first.high in
      let same = w.same in
      let run = plain_bytes plain (drop at bytes) (omega arith) first.before in
      let there : length (text_rest false (drop plain (drop at bytes))) ≡ length (text_rest false (drop (at + plain) bytes)) = ap (λ bs. length (text_rest false bs)) (drop-drop plain at bytes) in
      record { within = omega (arith, mark_within plain is); same = omega (arith, run, there) }

  -- what is a mark and no quote is a backslash
  pub is_backslash : (plain : ℕ) → IsMark (drop at bytes) (Some plain) → eqb (get_or bytes (at + plain) 0) 34 ≡ false → eqb (get_or bytes (at + plain) 0) 92 ≡ true
  is_backslash plain is other =
      let mark : (eqb (get_or bytes (at + plain) 0) 34 || eqb (get_or bytes (at + plain) 0) 92) ≡ true = rw (get_or-drop at bytes plain 0) at is.1 in
      rw other at mark

module _ (bytes : List ℕ) (mark : ℕ) (w : Walked bytes mark) (lt : mark < length bytes) where
  pub walked_quote : get_or bytes mark 0 ≡ 34 → mark + 1 ≡ length (text_rest false bytes)
  unfolding text_rest
  walked_quote quote =
      let one : length (text_rest false (drop mark bytes)) ≡ 1 = rw (drop_more bytes mark 0 lt, quote) refl in
      let same = w.same in
      omega arith

  at_backslash : eqb (get_or bytes mark 0) 34 ≡ false → eqb (get_or bytes mark 0) 92 ≡ true → length (text_rest false (drop mark bytes)) ≡ suc (length (text_rest true (drop (mark + 1) bytes)))
  unfolding text_rest
  at_backslash other backslash = rw (drop_more bytes mark 0 lt, other, backslash) refl

  escaped_byte : mark + 1 < length bytes → length (text_rest true (drop (mark + 1) bytes)) ≡ suc (length (text_rest false (drop (mark + 2) bytes)))
  unfolding text_rest
  escaped_byte more = rw (drop_more bytes (mark + 1) 0 more) (ap (λ n. suc (length (text_rest false (drop n bytes)))) (omega arith))

  -- after the byte after a backslash, where there is one
  pub walked_escaped : eqb (get_or bytes mark 0) 34 ≡ false → eqb (get_or bytes mark 0) 92 ≡ true → Walked bytes (min (length bytes) (mark + 2))
  walked_escaped other backslash = elim (cases_lt (mark + 1) (length bytes)) [
    | inl more ↦
        let place : min (length bytes) (mark + 2) ≡ mark + 2 = omega arith in
        let same = w.same in
        rw place (record { within = omega arith; same = omega (arith, at_backslash other backslash, escaped_byte more) })
    | inr last ↦
        let place : min (length bytes) (mark + 2) ≡ mark + 1 = omega arith in
        let same = w.same in
        let over : (escaped : Bool) → length (text_rest escaped (drop (mark + 1) bytes)) ≡ 0 = λ escaped. rw (drop_all (mark + 1) bytes last) (text_rest-none escaped) in
        rw place (record { within = omega arith; same = omega (arith, at_backslash other backslash, over true, over false) })
  ]

-- what stands after a place, as a part
pub slice_behind : (bytes : List ℕ) (at : ℕ) → slice_range bytes at (length bytes) ≡ drop at bytes
slice_behind bytes at = take_all (length bytes - at) (drop at bytes) (omega (arith, length-drop at bytes))
