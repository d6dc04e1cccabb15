-- Folding piece by piece.
use Rattle.std.proofs.Common.{ℕ, suc, ◌≡◌, ◌+◌, ◌-◌, ◌<◌, ◌≤◌, List, [], ◌∷◌, ◌++◌, length, get_or, take, drop, Some, None, Result, Ok, Err, refl, ap, sym, ◌∙◌, append_assoc, arith}
use Rattle.std.proofs.Math.Seq.{take-add}
use Rattle.std.proofs.lemmas.List.{drop_more, drop-drop, append-nil, length-drop, drop_all, take_all}
use Rattle.std.specs.List.{slice_range}
use Rattle.float_fold.specs.Pieces.{piece_rest, pieces_behind, pieces}
use Rattle.float_fold.specs.Folding.{folded, folded_at, folded_piece, first_then, then_folded}
use Rattle.float_fold.proofs.Pieces.{length-piece_rest, take-piece_rest, pieces-cons}

-- the folding of what stands after a place
abbrev pub folded_from : List ℕ → ℕ → Result (List ℕ) ℕ
folded_from text at = folded_at at (pieces (drop at text))

-- where the piece ends that begins at a place
abbrev pub end_of : List ℕ → ℕ → ℕ
end_of text at = at + 1 + length (piece_rest (get_or text at 0) (drop (at + 1) text))

-- the same, from what stands after the first byte as a part of the text
pub is_end : (text : List ℕ) (at rest : ℕ) → rest ≡ length (piece_rest (get_or text at 0) (slice_range text (at + 1) (length text))) → at + 1 + rest ≡ end_of text at
is_end text at rest e =
    let whole : slice_range text (at + 1) (length text) ≡ drop (at + 1) text = take_all (length text - (at + 1)) (drop (at + 1) text) (omega (arith, length-drop (at + 1) text)) in
    ap (λ n. at + 1 + n) (e ∙ ap (λ bs. length (piece_rest (get_or text at 0) bs)) whole)

pub end_within : (text : List ℕ) (at : ℕ) → at < length text → end_of text at ≤ length text
end_within text at lt = omega (arith, length-piece_rest (get_or text at 0) (drop (at + 1) text), length-drop (at + 1) text)

pub slice_range-append : (bytes : List ℕ) (from mid to : ℕ) → from ≤ mid → mid ≤ to → slice_range bytes from mid ++ slice_range bytes mid to ≡ slice_range bytes from to
slice_range-append bytes from mid to le_mid le_to =
    let there : drop mid bytes ≡ drop (mid - from) (drop from bytes) = ap (λ n. drop n bytes) (omega arith) ∙ sym (drop-drop (mid - from) from bytes) in
    let whole : (mid - from) + (to - mid) ≡ to - from = omega arith in
    ap (λ bs. take (mid - from) (drop from bytes) ++ take (to - mid) bs) there ∙ (sym (take-add (mid - from) (to - mid) (drop from bytes)) ∙ ap (λ n. take n (drop from bytes)) whole)

-- the piece that begins at a place
pub piece_at : (text : List ℕ) (at : ℕ) → at < length text → slice_range text at (end_of text at) ≡ get_or text at 0 ∷ piece_rest (get_or text at 0) (drop (at + 1) text)
piece_at text at lt =
    let byte = get_or text at 0 in
    let bytes = drop (at + 1) text in
    let size : end_of text at - at ≡ suc (length (piece_rest byte bytes)) = omega arith in
    rw (size, drop_more text at 0 lt) (ap (λ bs. byte ∷ bs) (take-piece_rest byte bytes))

pub folded_from-step : (text : List ℕ) (at : ℕ) → at < length text → folded_from text at ≡ first_then at (folded_piece (slice_range text at (end_of text at))) (folded_from text (end_of text at))
unfolding folded_at
folded_from-step text at lt =
    let byte = get_or text at 0 in
    let bytes = drop (at + 1) text in
    let rest = piece_rest byte bytes in
    let cut : pieces (drop at text) ≡ (byte ∷ rest) ∷ pieces (drop (length rest) bytes) = ap pieces (drop_more text at 0 lt) ∙ pieces-cons byte bytes in
    let place : at + length (byte ∷ rest) ≡ end_of text at = omega arith in
    let behind : drop (length rest) bytes ≡ drop (end_of text at) text = drop-drop (length rest) (at + 1) text in
    rw (piece_at text at lt) (ap (folded_at at) cut ∙ ap (first_then at (folded_piece (byte ∷ rest))) (ap (λ n. folded_at n (pieces (drop (length rest) bytes))) place ∙ ap (λ bs. folded_at (end_of text at) (pieces bs)) behind))

pub folded_from-over : (text : List ℕ) (at : ℕ) → length text ≤ at → folded_from text at ≡ Ok []
unfolding folded_at pieces_behind
folded_from-over text at over = rw (drop_all at text over) refl

then_folded-twice : (front more : List ℕ) (rest : Result (List ℕ) ℕ) → then_folded front (then_folded more rest) ≡ then_folded (front ++ more) rest
then_folded-twice front more (Ok rest) = ap Ok (sym (append_assoc front more rest))
then_folded-twice front more (Err at) = refl

then_folded-none : (rest : Result (List ℕ) ℕ) → then_folded [] rest ≡ rest
then_folded-none (Ok rest) = refl
then_folded-none (Err at) = refl

-- the row has the folding of the text up to a place, but for the last bytes, which stay as they are
pub record Reached (text row : List ℕ) (copied at : ℕ) : Type 0 where
  pub copied_before : copied ≤ at
  pub within : at ≤ length text
  pub same : folded text ≡ then_folded (row ++ slice_range text copied at) (folded_from text at)

pub start : (text : List ℕ) → Reached text [] 0 0
unfolding folded
start text = record { copied_before = omega arith; within = omega arith; same = sym (then_folded-none (folded_from text 0)) }

module _ (text row : List ℕ) (copied at : ℕ) (r : Reached text row copied at) where
  pub stays : at < length text → folded_piece (slice_range text at (end_of text at)) ≡ Some (slice_range text at (end_of text at)) → Reached text row copied (end_of text at)
  stays lt piece =
      let end = end_of text at in
      let before = r.copied_before in
      let next : folded_from text at ≡ then_folded (slice_range text at end) (folded_from text end) =
      folded_from-step text at lt ∙ ap (λ p. first_then at p (folded_from text end)) piece in
      let joined : (row ++ slice_range text copied at) ++ slice_range text at end ≡ row ++ slice_range text copied end =
      append_assoc row (slice_range text copied at) (slice_range text at end) ∙ ap (λ bs. row ++ bs) (slice_range-append text copied at end before (omega arith)) in
      record {
        copied_before = omega arith;
        within = end_within text at lt;
        same = r.same ∙ (ap (then_folded (row ++ slice_range text copied at)) next ∙ (then_folded-twice (row ++ slice_range text copied at) (slice_range text at end) (folded_from text end) ∙ ap (λ bs. then_folded bs (folded_from text end)) joined));
      }

  pub to_first : at < length text → folded_piece (slice_range text at (end_of text at)) ≡ Some (take 1 (slice_range text at (end_of text at))) → Reached text (row ++ slice_range text copied (at + 1)) (end_of text at) (end_of text at)
  to_first lt piece =
      let end = end_of text at in
      let before = r.copied_before in
      let first : take 1 (slice_range text at end) ≡ slice_range text at (at + 1) =
      let one : at + 1 - at ≡ 1 = omega arith in
      rw (piece_at text at lt, one, drop_more text at 0 lt) refl in
      let next : folded_from text at ≡ then_folded (slice_range text at (at + 1)) (folded_from text end) =
      folded_from-step text at lt ∙ ap (λ p. first_then at p (folded_from text end)) (piece ∙ ap Some first) in
      let none : end - end ≡ 0 = omega arith in
      let joined : (row ++ slice_range text copied at) ++ slice_range text at (at + 1) ≡ (row ++ slice_range text copied (at + 1)) ++ slice_range text end end =
      append_assoc row (slice_range text copied at) (slice_range text at (at + 1))
      ∙ (ap (λ bs. row ++ bs) (slice_range-append text copied at (at + 1) before (omega arith)) ∙ rw none (sym (append-nil (row ++ slice_range text copied (at + 1))))) in
      record {
        copied_before = omega arith;
        within = end_within text at lt;
        same = r.same ∙ (ap (then_folded (row ++ slice_range text copied at)) next ∙ (then_folded-twice (row ++ slice_range text copied at) (slice_range text at (at + 1)) (folded_from text end) ∙ ap (λ bs. then_folded bs (folded_from text end)) joined));
      }

  pub refused : at < length text → folded_piece (slice_range text at (end_of text at)) ≡ None → folded text ≡ Err at
  refused lt piece = r.same ∙ ap (then_folded (row ++ slice_range text copied at)) (folded_from-step text at lt ∙ ap (λ p. first_then at p (folded_from text (end_of text at))) piece)

  pub finished : length text ≤ at → folded text ≡ Ok (row ++ slice_range text copied (length text))
  finished over =
      let within = r.within in
      let place : at ≡ length text = omega arith in
      r.same ∙ (ap (then_folded (row ++ slice_range text copied at)) (folded_from-over text at over) ∙ ap Ok (append-nil (row ++ slice_range text copied at) ∙ ap (λ n. row ++ slice_range text copied n) place))
