-- Texts that are written piece by piece.
use Rattle.std.proofs.Common.{◌≡◌, ℕ, List, [], ◌++◌, length, take, drop, refl, sym, ap, ◌∙◌, append_assoc, append-nil}
use Rattle.std.proofs.lemmas.List.{take-append-drop, take_at, nil_from_length}

-- the beginning of a text is written, and the rest is still to be
pub record IsWrittenUpTo (old new text rest : List ℕ) : Type 0 where
  pub front : List ℕ
  pub parts : text ≡ front ++ rest
  pub written : new ≡ old ++ front

pub written_none : (old text : List ℕ) → IsWrittenUpTo old old text text
written_none old text = record { front = []; parts = refl; written = sym (append-nil old) }

pub written_more : (old new next text rest after : List ℕ) (n : ℕ) → IsWrittenUpTo old new text rest → next ≡ new ++ take n rest → after ≡ drop n rest → IsWrittenUpTo old next text after
written_more old new next text rest after n so_far wrote left = record {
  front = so_far.front ++ take n rest;
  parts = so_far.parts ∙ ap (λ (xs : List ℕ). so_far.front ++ xs) (sym (take-append-drop n rest)) ∙ sym (append_assoc so_far.front (take n rest) (drop n rest))
      ∙ ap (λ (xs : List ℕ). (so_far.front ++ take n rest) ++ xs) (sym left);
  written = wrote ∙ ap (λ (xs : List ℕ). xs ++ take n rest) so_far.written ∙ append_assoc old so_far.front (take n rest);
}

-- what is written so far is a prefix of the text
pub written_front : (old new text rest : List ℕ) → IsWrittenUpTo old new text rest → (n : ℕ) × (new ≡ old ++ take n text)
written_front old new text rest so_far =
    let front : take (length so_far.front) text ≡ so_far.front = ap (take (length so_far.front)) so_far.parts ∙ take_at so_far.front rest (length so_far.front) refl in
    (length so_far.front, rw front so_far.written)

pub written_all : (old new text rest : List ℕ) → length rest ≡ 0 → IsWrittenUpTo old new text rest → new ≡ old ++ text
written_all old new text rest e so_far =
    so_far.written ∙ ap (λ (xs : List ℕ). old ++ xs) (sym (append-nil so_far.front) ∙ ap (λ (xs : List ℕ). so_far.front ++ xs) (sym (nil_from_length rest e)) ∙ sym so_far.parts)
