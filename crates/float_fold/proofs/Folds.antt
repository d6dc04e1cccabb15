-- What folding does to the length of a text, and to a text with no floats.
use Rattle.std.proofs.Common.{ℕ, zero, suc, ◌≡◌, ◌≢◌, ◌+◌, ◌≤◌, Bool, true, false, ◌&&◌, cond, List, [], ◌∷◌, ◌++◌, length, drop, Option, Some, None, Result, Ok, Err, refl, ap, sym, ◌∙◌, length-append, arith}
use Rattle.std.specs.Prelude.{codes}
use Rattle.std.specs.List.{list_any, concat}
use Rattle.std.specs.Str.{bytes_eq}
use Rattle.std.proofs.lemmas.Bool.{or_parts}
use Rattle.std.proofs.lemmas.Slice.Eq.{bytes_eq-Decides}
use Rattle.float_fold.specs.Pieces.{begins_number, is_float_mark, piece_rest, pieces_behind, pieces}
use Rattle.float_fold.specs.Folding.{Answers, folded_token, folded_piece, folded_at, folded, first_then, then_folded, is_float_token, has_float_token}
use Rattle.float_fold.specs.declared.error.FoldError.{FoldError}
use Rattle.float_fold.specs.declared.error.FoldError.TheVariants.{FloatField, Memory}
use Rattle.float_fold.proofs.Pieces.{take-piece_rest}
use Rattle.std.proofs.lemmas.List.{take-append-drop}

-- the pieces are the bytes
concat-pieces_behind : (skipped : ℕ) (bytes : List ℕ) → concat (pieces_behind skipped bytes) ≡ drop skipped bytes
unfolding pieces_behind
concat-pieces_behind zero [] = refl
concat-pieces_behind (suc skipped) [] = refl
concat-pieces_behind zero (byte ∷ bytes) =
    let rest = piece_rest byte bytes in
    ap (λ bs. byte ∷ (rest ++ bs)) (concat-pieces_behind (length rest) bytes)
    ∙ ap (λ bs. byte ∷ bs) (ap (λ bs. bs ++ drop (length rest) bytes) (sym (take-piece_rest byte bytes)) ∙ take-append-drop (length rest) bytes)
concat-pieces_behind (suc skipped) (byte ∷ bytes) = concat-pieces_behind skipped bytes

pub concat-pieces : (bytes : List ℕ) → concat (pieces bytes) ≡ bytes
concat-pieces bytes = concat-pieces_behind 0 bytes

-- ---- lengths

choice_shorter : (token made : List ℕ) (is_zero is_one is_other : Bool) → (is_zero ≡ true → token ≡ codes "0.0") → (is_one ≡ true → token ≡ codes "1.0")
    → cond is_zero (Some (codes "0")) (cond is_one (Some (codes "1")) (cond is_other None (Some token))) ≡ Some made → length made ≤ length token
choice_shorter token made true is_one is_other zeros ones e = let same : codes "0" ≡ made = cc in omega (arith, ap length (sym same), ap length (zeros refl))
choice_shorter token made false true is_other zeros ones e = let same : codes "1" ≡ made = cc in omega (arith, ap length (sym same), ap length (ones refl))
choice_shorter token made false false true zeros ones e = absurd cc
choice_shorter token made false false false zeros ones e = let same : token ≡ made = cc in omega (arith, ap length same)

token_shorter : (token made : List ℕ) → folded_token token ≡ Some made → length made ≤ length token
token_shorter token made e =
    choice_shorter token made (bytes_eq token (codes "0.0")) (bytes_eq token (codes "1.0")) (list_any is_float_mark token)
    (bytes_eq-Decides token (codes "0.0")).0 (bytes_eq-Decides token (codes "1.0")).0 e

begun_shorter : (piece made : List ℕ) (number : Bool) → cond number (folded_token piece) (Some piece) ≡ Some made → length made ≤ length piece
begun_shorter piece made true e = token_shorter piece made e
begun_shorter piece made false e = let same : piece ≡ made = cc in omega (arith, ap length same)

piece_shorter : (piece made : List ℕ) → folded_piece piece ≡ Some made → length made ≤ length piece
piece_shorter [] made e = let same : [] ≡ made = cc in omega (arith, ap length same)
piece_shorter (byte ∷ rest) made e = begun_shorter (byte ∷ rest) made (begins_number byte) e

joined_shorter : (at first most : ℕ) (made : Option (List ℕ)) (rest : Result (List ℕ) ℕ) (row : List ℕ)
    → ((front : List ℕ) → made ≡ Some front → length front ≤ first) → ((back : List ℕ) → rest ≡ Ok back → length back ≤ most)
    → first_then at made rest ≡ Ok row → length row ≤ first + most
joined_shorter at first most (Some front) (Ok back) row shorter_front shorter_back e =
    let same : front ++ back ≡ row = cc in
    omega (arith, ap length same, length-append front back, shorter_front front refl, shorter_back back refl)
joined_shorter at first most (Some front) (Err place) row shorter_front shorter_back e = absurd cc
joined_shorter at first most None rest row shorter_front shorter_back e = absurd cc

folded_at_shorter : (at : ℕ) (ps : List (List ℕ)) (row : List ℕ) → folded_at at ps ≡ Ok row → length row ≤ length (concat ps)
unfolding folded_at
folded_at_shorter at [] row e = let same : [] ≡ row = cc in omega (arith, ap length same)
folded_at_shorter at (piece ∷ ps) row e =
    let shorter = joined_shorter at (length piece) (length (concat ps)) (folded_piece piece) (folded_at (at + length piece) ps) row (piece_shorter piece) (folded_at_shorter (at + length piece) ps) e in
    omega (arith, shorter, length-append piece (concat ps))

pub folded_shorter : (text row : List ℕ) → folded text ≡ Ok row → length row ≤ length text
unfolding folded
folded_shorter text row e = omega (arith, folded_at_shorter 0 (pieces text) row e, ap length (concat-pieces text))

-- ---- texts with no floats

is_false : (b : Bool) → (b ≡ true → ⊥) → b ≡ false
is_false true h = absurd (h refl)
is_false false h = refl

other_bytes : (token float : List ℕ) → list_any is_float_mark float ≡ true → list_any is_float_mark token ≡ false → bytes_eq token float ≡ false
other_bytes token float marked plain =
    is_false (bytes_eq token float) (λ e. let same : token ≡ float = (bytes_eq-Decides token float).0 e in absurd (let marks : list_any is_float_mark token ≡ list_any is_float_mark float = ap (list_any is_float_mark) same in cc))

token_stays : (token : List ℕ) → list_any is_float_mark token ≡ false → folded_token token ≡ Some token
token_stays token plain = rw (other_bytes token (codes "0.0") refl plain, other_bytes token (codes "1.0") refl plain, plain) refl

begun_stays : (token : List ℕ) (number : Bool) → (number && list_any is_float_mark token) ≡ false → cond number (folded_token token) (Some token) ≡ Some token
begun_stays token true plain = token_stays token plain
begun_stays token false plain = refl

piece_stays : (piece : List ℕ) → is_float_token piece ≡ false → folded_piece piece ≡ Some piece
piece_stays [] plain = refl
piece_stays (byte ∷ rest) plain = begun_stays (byte ∷ rest) (begins_number byte) plain

folded_at_stays : (at : ℕ) (ps : List (List ℕ)) → list_any is_float_token ps ≡ false → folded_at at ps ≡ Ok (concat ps)
unfolding folded_at
folded_at_stays at [] plain = refl
folded_at_stays at (piece ∷ ps) plain =
    let parts = or_parts (is_float_token piece) (list_any is_float_token ps) plain in
    ap (λ made. first_then at made (folded_at (at + length piece) ps)) (piece_stays piece parts.0) ∙ ap (then_folded piece) (folded_at_stays (at + length piece) ps parts.1)

pub folded_stays : (text : List ℕ) → has_float_token text ≡ false → folded text ≡ Ok text
unfolding folded has_float_token
folded_stays text plain = folded_at_stays 0 (pieces text) plain ∙ ap Ok (concat-pieces text)

-- ---- one answer

pub one_answer : (text : List ℕ) (answer other : Result (List ℕ) FoldError) → answer ≢ Err Memory → other ≢ Err Memory → Answers text answer → Answers text other → answer ≡ other
one_answer text (Ok row) (Ok others) known known_other a b = let same : row ≡ others = cc in ap Ok same
one_answer text (Ok row) (Err (FloatField at)) known known_other a b = absurd cc
one_answer text (Err (FloatField at)) (Ok row) known known_other a b = absurd cc
one_answer text (Err (FloatField at)) (Err (FloatField place)) known known_other a b = let same : at ≡ place = cc in ap (λ n. Err (FloatField n)) same
one_answer text (Err Memory) other known known_other a b = absurd (known refl)
one_answer text (Ok row) (Err Memory) known known_other a b = absurd (known_other refl)
one_answer text (Err (FloatField at)) (Err Memory) known known_other a b = absurd (known_other refl)
