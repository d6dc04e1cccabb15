-- Places of a list.
use Rattle.std.proofs.Common.{◌≡◌, ℕ, zero, suc, ◌+◌, ◌<◌, ◌≤◌, List, [], ◌∷◌, ◌++◌, length, take, refl, sym, ap, inl, inr, ⊎_elim, ◌⊎◌, zero-add, arith}
use Rattle.record_words.specs.Story.{At}

module _ {X : Type 0} where
  pub at_below : (xs : List X) (i : ℕ) (x : X) → At xs i x → i < length xs
  at_below [] i x e = absurd cc
  at_below (y ∷ ys) zero x e = omega arith
  at_below (y ∷ ys) (suc i) x e = let h = at_below ys i x e in omega arith

  pub at_one : (xs : List X) (i : ℕ) (x y : X) → At xs i x → At xs i y → x ≡ y
  at_one xs i x y p q = cc

  pub at_here : (xs : List X) (x : X) (rest : List X) → At (xs ++ x ∷ rest) (length xs) x
  at_here [] x rest = refl
  at_here (y ∷ ys) x rest = at_here ys x rest

  pub take_front : (xs rest : List X) → take (length xs) (xs ++ rest) ≡ xs
  take_front [] rest = refl
  take_front (x ∷ xs) rest = ap (λ (z : List X). x ∷ z) (take_front xs rest)

  pub take_next : (xs : List X) (i : ℕ) (x : X) → At xs i x → take (suc i) xs ≡ take i xs ++ x ∷ []
  take_next [] i x e = absurd cc
  take_next (y ∷ ys) zero x e = let h : y ≡ x = cc in ap (λ (z : X). z ∷ []) h
  take_next (y ∷ ys) (suc i) x e = ap (λ (z : List X). y ∷ z) (take_next ys i x e)

  -- the first elements are a beginning of more of them
  pub take_more : (xs : List X) (i j : ℕ) → i ≤ j → (rest : List X) × (take j xs ≡ take i xs ++ rest)
  take_more [] zero zero h = ([], refl)
  take_more [] zero (suc j) h = ([], refl)
  take_more [] (suc i) zero h = ([], refl)
  take_more [] (suc i) (suc j) h = ([], refl)
  take_more (x ∷ xs) zero j h = (take j (x ∷ xs), refl)
  take_more (x ∷ xs) (suc i) zero h = absurd (omega arith)
  take_more (x ∷ xs) (suc i) (suc j) h = let r = take_more xs i j (omega arith) in (r.0, ap (λ (z : List X). x ∷ z) r.1)

  pub take_rest : (xs : List X) (i : ℕ) → (rest : List X) × (xs ≡ take i xs ++ rest)
  take_rest [] zero = ([], refl)
  take_rest [] (suc i) = ([], refl)
  take_rest (x ∷ xs) zero = (x ∷ xs, refl)
  take_rest (x ∷ xs) (suc i) = let r = take_rest xs i in (r.0, ap (λ (z : List X). x ∷ z) r.1)

  pub at_front : (xs rest : List X) (i : ℕ) (x : X) → At xs i x → At (xs ++ rest) i x
  at_front [] rest i x e = absurd cc
  at_front (y ∷ ys) rest zero x e = e
  at_front (y ∷ ys) rest (suc i) x e = at_front ys rest i x e

  pub at_append : (xs rest : List X) (i : ℕ) (x : X) → At (xs ++ rest) i x → At xs i x ⊎ ((j : ℕ) × (At rest j x × (i ≡ length xs + j)))
  at_append [] rest i x e = inr (i, (e, sym (zero-add i)))
  at_append (y ∷ ys) rest zero x e = inl e
  at_append (y ∷ ys) rest (suc i) x e = ⊎_elim (λ (h : At ys i x). inl h) (λ (h : (j : ℕ) × (At rest j x × (i ≡ length ys + j))). inr (h.0, (h.1.0, (let s = h.1.1 in omega arith)))) (at_append ys rest i x e)

  pub take_within : (xs rest : List X) (i : ℕ) → i ≤ length xs → take i (xs ++ rest) ≡ take i xs
  take_within xs rest zero h = refl
  take_within [] rest (suc i) h = absurd (omega arith)
  take_within (x ∷ xs) rest (suc i) h = ap (λ (z : List X). x ∷ z) (take_within xs rest i (omega arith))
