-- What was folded has no float token.
use Rattle.std.proofs.Common.{ℕ, zero, suc, ◌≡◌, ◌+◌, ◌⊎◌, inl, inr, Bool, true, false, cond, eqb, List, [], ◌∷◌, ◌++◌, length, drop, Option, Some, None, Result, Ok, Err, refl, ap, sym, subst, ◌∙◌}
use Rattle.std.specs.Prelude.{codes}
use Rattle.std.specs.List.{list_any, take_while}
use Rattle.std.specs.Str.{bytes_eq}
use Rattle.std.proofs.lemmas.Bool.{eqb-true}
use Rattle.std.proofs.lemmas.List.Sums.{take_while-cons}
use Rattle.std.proofs.lemmas.Slice.Eq.{bytes_eq-Decides}
use Rattle.float_fold.specs.Pieces.{begins_number, is_float_mark, goes_on_number, text_rest, piece_rest, pieces_behind}
use Rattle.float_fold.specs.Folding.{folded_token, folded_piece, folded_at, folded, first_then, has_float_token}
use Rattle.float_fold.proofs.Plain.{IsPlain, stops, none_plain, plain_piece, plain_byte, stopped}

-- the text goes on with a row that has no float token
record Clean (bytes row : List ℕ) : Type 0 where
  plain : IsPlain row
  stop : stops bytes ≡ true → stops row ≡ true
  none : bytes ≡ [] → row ≡ []

-- ---- pieces that are cut again

text_again : (escaped : Bool) (bytes back : List ℕ) → (drop (length (text_rest escaped bytes)) bytes ≡ [] → back ≡ []) → text_rest escaped (text_rest escaped bytes ++ back) ≡ text_rest escaped bytes
unfolding text_rest
text_again escaped [] back none = rw (none refl) refl
text_again true (byte ∷ bytes) back none = ap (λ bs. byte ∷ bs) (text_again false bytes back none)
text_again false (byte ∷ bytes) back none =
    let slash = eqb byte 92 in
    let rest = text_rest slash bytes in
    (elim (eqb byte 34) as (λ quote. (drop (length (byte ∷ cond quote [] rest)) (byte ∷ bytes) ≡ [] → back ≡ []) → byte ∷ cond quote [] (text_rest slash (cond quote [] rest ++ back)) ≡ byte ∷ cond quote [] rest) [
      | true ↦ λ h. refl
      | false ↦ λ h. ap (λ bs. byte ∷ bs) (text_again slash bytes back h)
    ]) none

taken_again : (byte : ℕ) (bytes back : List ℕ) (on : Bool) → goes_on_number byte ≡ on → stops back ≡ true → take_while goes_on_number (take_while goes_on_number bytes ++ back) ≡ take_while goes_on_number bytes
    → take_while goes_on_number (cond on (byte ∷ take_while goes_on_number bytes) [] ++ back) ≡ cond on (byte ∷ take_while goes_on_number bytes) []
taken_again byte bytes back true on stop rest = take_while-cons goes_on_number byte (take_while goes_on_number bytes ++ back) ∙ rw on (ap (λ bs. byte ∷ bs) rest)
taken_again byte bytes back false on stop rest = stopped back stop

number_again : (bytes back : List ℕ) → stops back ≡ true → take_while goes_on_number (take_while goes_on_number bytes ++ back) ≡ take_while goes_on_number bytes
number_again [] back stop = stopped back stop
number_again (byte ∷ bytes) back stop =
    subst (λ (front : List ℕ). take_while goes_on_number (front ++ back) ≡ front) (sym (take_while-cons goes_on_number byte bytes))
    (taken_again byte bytes back (goes_on_number byte) refl stop (number_again bytes back stop))

left_of : (byte : ℕ) (bytes : List ℕ) (on : Bool) → goes_on_number byte ≡ on → stops (drop (length (take_while goes_on_number bytes)) bytes) ≡ true
    → stops (drop (length (cond on (byte ∷ take_while goes_on_number bytes) [])) (byte ∷ bytes)) ≡ true
unfolding stops
left_of byte bytes true on rest = rest
left_of byte bytes false on rest = rw on refl

left_stops : (bytes : List ℕ) → stops (drop (length (take_while goes_on_number bytes)) bytes) ≡ true
unfolding stops
left_stops [] = refl
left_stops (byte ∷ bytes) =
    subst (λ (front : List ℕ). stops (drop (length front) (byte ∷ bytes)) ≡ true) (sym (take_while-cons goes_on_number byte bytes))
    (left_of byte bytes (goes_on_number byte) refl (left_stops bytes))

-- ---- tokens

-- the token became its first byte, a digit
record ToDigit (token made : List ℕ) : Type 0 where
  digit : ℕ
  rest : List ℕ
  token_is : token ≡ digit ∷ rest
  made_is : made ≡ digit ∷ []
  unmarked : is_float_mark digit ≡ false

choice_made : (token made : List ℕ) (is_zero is_one is_other : Bool) → (is_zero ≡ true → token ≡ codes "0.0") → (is_one ≡ true → token ≡ codes "1.0") → list_any is_float_mark token ≡ is_other
    → cond is_zero (Some (codes "0")) (cond is_one (Some (codes "1")) (cond is_other None (Some token))) ≡ Some made → ((made ≡ token) × (list_any is_float_mark token ≡ false)) ⊎ ToDigit token made
choice_made token made true is_one is_other zeros ones others e = inr (record { digit = 48; rest = codes ".0"; token_is = zeros refl; made_is = cc; unmarked = refl })
choice_made token made false true is_other zeros ones others e = inr (record { digit = 49; rest = codes ".0"; token_is = ones refl; made_is = cc; unmarked = refl })
choice_made token made false false true zeros ones others e = absurd cc
choice_made token made false false false zeros ones others e = inl (cc, others)

token_made : (token made : List ℕ) → folded_token token ≡ Some made → ((made ≡ token) × (list_any is_float_mark token ≡ false)) ⊎ ToDigit token made
token_made token made e =
    choice_made token made (bytes_eq token (codes "0.0")) (bytes_eq token (codes "1.0")) (list_any is_float_mark token)
    (bytes_eq-Decides token (codes "0.0")).0 (bytes_eq-Decides token (codes "1.0")).0 refl e

number_plain : (byte : ℕ) (rest back : List ℕ) → eqb byte 34 ≡ false → begins_number byte ≡ true → take_while goes_on_number (rest ++ back) ≡ rest → list_any is_float_mark (byte ∷ rest) ≡ false → IsPlain back → IsPlain (byte ∷ (rest ++ back))
unfolding piece_rest
number_plain byte rest back other begins cut unmarked p = plain_piece byte rest back (rw (other, begins) cut) (rw begins unmarked) p

-- ---- one piece

text_clean : (byte : ℕ) (bytes back : List ℕ) → byte ≡ 34 → Clean (drop (length (text_rest false bytes)) bytes) back → Clean (byte ∷ bytes) ((byte ∷ text_rest false bytes) ++ back)
unfolding piece_rest stops
text_clean byte bytes back quote c = record {
  plain = rw quote (plain_piece 34 (text_rest false bytes) back (text_again false bytes back c.none) refl c.plain);
  stop = λ e. e;
  none = λ e. absurd cc;
}

other_clean : (byte : ℕ) (bytes back : List ℕ) → eqb byte 34 ≡ false → begins_number byte ≡ false → Clean bytes back → Clean (byte ∷ bytes) (byte ∷ back)
unfolding stops
other_clean byte bytes back other nothing c = record {
  plain = plain_byte byte back other nothing c.plain;
  stop = λ e. e;
  none = λ e. absurd cc;
}

number_clean : (byte : ℕ) (bytes made back : List ℕ) → eqb byte 34 ≡ false → begins_number byte ≡ true → folded_token (byte ∷ take_while goes_on_number bytes) ≡ Some made
    → Clean (drop (length (take_while goes_on_number bytes)) bytes) back → Clean (byte ∷ bytes) (made ++ back)
unfolding stops
number_clean byte bytes made back other begins e c = record {
  plain = elim (token_made (byte ∷ rest) made e) [
    | inl same ↦ rw same.0 (number_plain byte rest back other begins (number_again bytes back end) same.1 c.plain)
    | inr d ↦ digit_plain d
  ];
  stop = λ s. absurd (never s);
  none = λ s. absurd cc;
}
  where
    rest : List ℕ
    rest = take_while goes_on_number bytes

    end : stops back ≡ true
    end = c.stop (left_stops bytes)

    never : cond (goes_on_number byte) false true ≡ true → ⊥
    never s = let no : false ≡ true = rw begins at s in cc

    digit_plain : ToDigit (byte ∷ rest) made → IsPlain (made ++ back)
    digit_plain d =
        let same : byte ≡ d.digit = let whole = d.token_is in cc in
        rw (d.made_is, ← same) (number_plain byte [] back other begins (stopped back end) (rw (same, d.unmarked) refl) c.plain)

piece_clean : (byte : ℕ) (bytes made back : List ℕ) (quote number : Bool) → eqb byte 34 ≡ quote → begins_number byte ≡ number → folded_piece (byte ∷ piece_rest byte bytes) ≡ Some made
    → Clean (drop (length (piece_rest byte bytes)) bytes) back → Clean (byte ∷ bytes) (made ++ back)
unfolding piece_rest
piece_clean byte bytes made back true number quote numbered e c =
    let same : byte ≡ 34 = eqb-true byte 34 quote in
    let nothing : begins_number byte ≡ false = rw same refl in
    let rest : piece_rest byte bytes ≡ text_rest false bytes = rw quote refl in
    let kept : byte ∷ piece_rest byte bytes ≡ made = let some = rw nothing at e in cc in
    let text = rw rest at c in
    subst (λ (front : List ℕ). Clean (byte ∷ bytes) (front ++ back)) (ap (λ bs. byte ∷ bs) (sym rest) ∙ kept) (text_clean byte bytes back same text)
piece_clean byte bytes made back false true quote numbered e c =
    let rest : piece_rest byte bytes ≡ take_while goes_on_number bytes = rw (quote, numbered) refl in
    let piece = subst (λ (bs : List ℕ). folded_piece (byte ∷ bs) ≡ Some made) rest e in
    let token : folded_token (byte ∷ take_while goes_on_number bytes) ≡ Some made = rw numbered at piece in
    let number = rw rest at c in
    number_clean byte bytes made back quote numbered token number
piece_clean byte bytes made back false false quote numbered e c =
    let rest : piece_rest byte bytes ≡ [] = rw (quote, numbered) refl in
    let kept : byte ∷ piece_rest byte bytes ≡ made = let some = rw numbered at e in cc in
    let other = rw rest at c in
    subst (λ (front : List ℕ). Clean (byte ∷ bytes) (front ++ back)) (ap (λ bs. byte ∷ bs) (sym rest) ∙ kept) (other_clean byte bytes back quote numbered other)

-- ---- the whole

record Parts (made : Option (List ℕ)) (rest : Result (List ℕ) ℕ) (row : List ℕ) : Type 0 where
  front : List ℕ
  back : List ℕ
  made_is : made ≡ Some front
  rest_is : rest ≡ Ok back
  row_is : front ++ back ≡ row

parts_of : (at : ℕ) (made : Option (List ℕ)) (rest : Result (List ℕ) ℕ) (row : List ℕ) → first_then at made rest ≡ Ok row → Parts made rest row
parts_of at (Some front) (Ok back) row e = record { front = front; back = back; made_is = refl; rest_is = refl; row_is = cc }
parts_of at (Some front) (Err place) row e = absurd cc
parts_of at None rest row e = absurd cc

clean_none : (made : Result (List ℕ) ℕ) (row : List ℕ) → made ≡ Ok [] → made ≡ Ok row → Clean [] row
clean_none made row empty e =
    let same : [] ≡ row = cc in
    subst (λ (made : List ℕ). Clean [] made) same (record { plain = none_plain; stop = λ s. s; none = λ n. n })

folded_clean : (bytes : List ℕ) (at skipped : ℕ) (row : List ℕ) → folded_at at (pieces_behind skipped bytes) ≡ Ok row → Clean (drop skipped bytes) row
unfolding folded_at pieces_behind
folded_clean [] at zero row e = clean_none (Ok []) row refl e
folded_clean [] at (suc skipped) row e = clean_none (Ok []) row refl e
folded_clean (byte ∷ bytes) at (suc skipped) row e = folded_clean bytes at skipped row e
folded_clean (byte ∷ bytes) at zero row e =
    let rest = piece_rest byte bytes in
    let next = at + length (byte ∷ rest) in
    let parts = parts_of at (folded_piece (byte ∷ rest)) (folded_at next (pieces_behind (length rest) bytes)) row e in
    let behind = folded_clean bytes next (length rest) parts.back parts.rest_is in
    subst (λ (made : List ℕ). Clean (byte ∷ bytes) made) parts.row_is (piece_clean byte bytes parts.front parts.back (eqb byte 34) (begins_number byte) refl refl parts.made_is behind)

pub folded-plain : (text row : List ℕ) → folded text ≡ Ok row → has_float_token row ≡ false
unfolding folded
folded-plain text row e = (folded_clean text 0 0 row e).plain.plain
