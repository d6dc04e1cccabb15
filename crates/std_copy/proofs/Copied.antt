-- What is copied piece by piece.
use Rattle.std.proofs.Common.{◌≡◌, ℕ, List, [], ◌++◌, length, take, drop, refl, sym, ap, ◌∙◌, append_assoc, append-nil}
use Rattle.std.proofs.lemmas.List.{take_at, take-append-drop}

-- the bytes that the source has given so far are those that were written
pub record IsCopied (start old left new : List ℕ) : Type 0 where
  pub prefix : List ℕ
  pub given : start ≡ prefix ++ left
  pub written : new ≡ old ++ prefix

pub copied_none : (start old : List ℕ) → IsCopied start old start old
copied_none start old = record { prefix = []; given = refl; written = sym (append-nil old) }

module _ (start old left new : List ℕ) (so_far : IsCopied start old left new) where
  pub copied_more : (piece after next : List ℕ) → left ≡ piece ++ after → next ≡ new ++ piece → IsCopied start old after next
  copied_more piece after next gave wrote = record {
    prefix = so_far.prefix ++ piece;
    given = so_far.given ∙ ap (λ (xs : List ℕ). so_far.prefix ++ xs) gave ∙ sym (append_assoc so_far.prefix piece after);
    written = wrote ∙ ap (λ (xs : List ℕ). xs ++ piece) so_far.written ∙ append_assoc old so_far.prefix piece;
  }

  -- what is written is a prefix of what was to be copied
  pub copied_prefix : (n : ℕ) × (new ≡ old ++ take n start)
  copied_prefix =
      let same : take (length so_far.prefix) start ≡ so_far.prefix = ap (take (length so_far.prefix)) so_far.given ∙ take_at so_far.prefix left (length so_far.prefix) refl in
      (length so_far.prefix, rw same so_far.written)

  pub copied_all : left ≡ [] → new ≡ old ++ start
  copied_all ended =
      so_far.written ∙ ap (λ (xs : List ℕ). old ++ xs) (sym (append-nil so_far.prefix) ∙ ap (λ (xs : List ℕ). so_far.prefix ++ xs) (sym ended) ∙ sym so_far.given)

-- a piece of which a prefix is written leaves a prefix of the whole
pub copied_part : (start old left new : List ℕ) → IsCopied start old left new → (piece after next : List ℕ) → left ≡ piece ++ after
    → (n : ℕ) → next ≡ new ++ take n piece → (count : ℕ) × (next ≡ old ++ take count start)
copied_part start old left new so_far piece after next gave n wrote =
    let split : left ≡ take n piece ++ (drop n piece ++ after) = gave ∙ ap (λ (xs : List ℕ). xs ++ after) (sym (take-append-drop n piece)) ∙ append_assoc (take n piece) (drop n piece) after in
    copied_prefix start old (drop n piece ++ after) next (copied_more start old left new so_far (take n piece) (drop n piece ++ after) next split wrote)
