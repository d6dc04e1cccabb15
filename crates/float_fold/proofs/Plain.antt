-- Texts that have no float token.
use Rattle.std.proofs.Common.{ℕ, ◌≡◌, Bool, true, false, cond, eqb, List, [], ◌∷◌, ◌++◌, length, drop, refl, ap, sym, ◌∙◌}
use Rattle.std.specs.List.{list_any, take_while}
use Rattle.std.proofs.lemmas.List.{drop_at}
use Rattle.std.proofs.lemmas.List.Sums.{take_while-cons}
use Rattle.float_fold.specs.Pieces.{begins_number, goes_on_number, piece_rest, pieces_behind, pieces}
use Rattle.float_fold.specs.Folding.{is_float_token, has_float_token}
use Rattle.float_fold.proofs.Pieces.{pieces-cons}

-- no number token of the bytes has `.`, `e` or `E`
pub record IsPlain (bytes : List ℕ) : Type 0 where
  pub plain : has_float_token bytes ≡ false

-- a number token before the bytes ends there
unfoldable pub stops : List ℕ → Bool
stops [] = true
stops (byte ∷ bytes) = cond (goes_on_number byte) false true

-- ---- one piece first

pub none_plain : IsPlain []
unfolding has_float_token pieces_behind
none_plain = record { plain = refl }

pub plain_piece : (byte : ℕ) (rest bytes : List ℕ) → piece_rest byte (rest ++ bytes) ≡ rest → is_float_token (byte ∷ rest) ≡ false → IsPlain bytes → IsPlain (byte ∷ (rest ++ bytes))
unfolding has_float_token
plain_piece byte rest bytes cut token p =
    let behind : drop (length rest) (rest ++ bytes) ≡ bytes = drop_at rest bytes (length rest) refl in
    let split : pieces (byte ∷ (rest ++ bytes)) ≡ (byte ∷ rest) ∷ pieces bytes =
    pieces-cons byte (rest ++ bytes) ∙ ap (λ r. (byte ∷ r) ∷ pieces (drop (length r) (rest ++ bytes))) cut ∙ ap (λ bs. (byte ∷ rest) ∷ pieces bs) behind in
    record { plain = ap (list_any is_float_token) split ∙ rw token p.plain }

pub plain_byte : (byte : ℕ) (bytes : List ℕ) → eqb byte 34 ≡ false → begins_number byte ≡ false → IsPlain bytes → IsPlain (byte ∷ bytes)
unfolding piece_rest
plain_byte byte bytes other nothing p = plain_piece byte [] bytes (rw (other, nothing) refl) (rw nothing refl) p

flipped : (b : Bool) → cond b false true ≡ true → b ≡ false
flipped true e = sym e
flipped false e = refl

pub stopped : (bytes : List ℕ) → stops bytes ≡ true → take_while goes_on_number bytes ≡ []
unfolding stops
stopped [] e = refl
stopped (byte ∷ bytes) e = take_while-cons goes_on_number byte bytes ∙ rw (flipped (goes_on_number byte) e) refl
