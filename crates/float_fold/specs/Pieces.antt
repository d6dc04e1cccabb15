-- JSON cut into texts, number tokens and single other bytes.
use Rattle.std.specs.Prelude.{ℕ, List, [], ◌∷◌, length, Bool, true, false, ◌||◌, ◌==◌, if◌then◌else◌}
use Rattle.std.specs.Char.{is_ascii_digit}
use Rattle.std.specs.List.{take_while}
use Rattle.std.proofs.Common.{zero, suc}

-- a text after its opening quote: up to the next quote that no backslash escapes, or to the end where there is none
unfoldable pub text_rest : Bool → List ℕ → List ℕ
text_rest escaped [] = []
text_rest true (byte ∷ bytes) = byte ∷ text_rest false bytes
text_rest false (byte ∷ bytes) = byte ∷ (if byte == 34 then [] else text_rest (byte == 92) bytes)

-- a digit or `-`
abbrev pub begins_number : ℕ → Bool
begins_number byte = is_ascii_digit byte || (byte == 45)

-- `.`, `e` or `E`
abbrev pub is_float_mark : ℕ → Bool
is_float_mark byte = (byte == 46) || ((byte == 101) || (byte == 69))

-- a digit, `+`, `-`, `.`, `e` or `E`
abbrev pub goes_on_number : ℕ → Bool
goes_on_number byte = begins_number byte || ((byte == 43) || is_float_mark byte)

-- what follows a byte in the piece that it begins: the rest of a text, the rest of a number token, or nothing
unfoldable pub piece_rest : ℕ → List ℕ → List ℕ
piece_rest byte bytes =
    if byte == 34 then text_rest false bytes else (if begins_number byte then take_while goes_on_number bytes else [])

-- the pieces of what follows so many bytes
unfoldable pub pieces_behind : ℕ → List ℕ → List (List ℕ)
pieces_behind skipped [] = []
pieces_behind zero (byte ∷ bytes) = (byte ∷ piece_rest byte bytes) ∷ pieces_behind (length (piece_rest byte bytes)) bytes
pieces_behind (suc skipped) (byte ∷ bytes) = pieces_behind skipped bytes

-- the pieces of all bytes, in order
abbrev pub pieces : List ℕ → List (List ℕ)
pieces = pieces_behind 0
