-- What folding the floats of JSON answers: the folded text, or the place of the first number that doesn't fold.
use Rattle.std.specs.Prelude.{◌≡◌, ℕ, ◌+◌, List, [], ◌∷◌, ◌++◌, length, codes, Bool, false, ◌&&◌, if◌then◌else◌, Option, Some, None, Result, Ok, Err, ⊤}
use Rattle.std.specs.List.{list_any}
use Rattle.std.specs.Str.{bytes_eq}
use Rattle.float_fold.specs.Pieces.{begins_number, is_float_mark, pieces}
use Rattle.float_fold.specs.declared.error.FoldError.{FoldError}
use Rattle.float_fold.specs.declared.error.FoldError.TheVariants.{FloatField, Memory}

-- `0.0` becomes `0` and `1.0` becomes `1`; no other token with `.`, `e` or `E` folds
abbrev pub folded_token : List ℕ → Option (List ℕ)
folded_token token =
    if bytes_eq token (codes "0.0") then Some (codes "0") else
    (if bytes_eq token (codes "1.0") then Some (codes "1") else
    (if list_any is_float_mark token then None else Some token))

-- texts and other bytes stay as they are
abbrev pub folded_piece : List ℕ → Option (List ℕ)
folded_piece [] = Some []
folded_piece (byte ∷ rest) = if begins_number byte then folded_token (byte ∷ rest) else Some (byte ∷ rest)

-- bytes, and then what follows them if that folds
abbrev pub then_folded : List ℕ → Result (List ℕ) ℕ → Result (List ℕ) ℕ
then_folded front (Ok rest) = Ok (front ++ rest)
then_folded front (Err at) = Err at

abbrev pub first_then : ℕ → Option (List ℕ) → Result (List ℕ) ℕ → Result (List ℕ) ℕ
first_then at (Some front) rest = then_folded front rest
first_then at None rest = Err at

-- the pieces folded in a row, where the first stands at this place
unfoldable pub folded_at : ℕ → List (List ℕ) → Result (List ℕ) ℕ
folded_at at [] = Ok []
folded_at at (piece ∷ rest) = first_then at (folded_piece piece) (folded_at (at + length piece) rest)

unfoldable pub folded : List ℕ → Result (List ℕ) ℕ
folded text = folded_at 0 (pieces text)

-- the answers that a call may give
abbrev pub Answers : List ℕ → Result (List ℕ) FoldError → Type 0
Answers text (Ok row) = folded text ≡ Ok row
Answers text (Err (FloatField at)) = folded text ≡ Err at
Answers text (Err Memory) = ⊤

-- the piece is a number token with `.`, `e` or `E`
abbrev pub is_float_token : List ℕ → Bool
is_float_token [] = false
is_float_token (byte ∷ rest) = begins_number byte && list_any is_float_mark (byte ∷ rest)

-- some number token of the text has `.`, `e` or `E`
unfoldable pub has_float_token : List ℕ → Bool
has_float_token text = list_any is_float_token (pieces text)
