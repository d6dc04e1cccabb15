-- Places of a list.
use Rattle.std.proofs.Common.{◌≡◌, ℕ, zero, suc, ◌+◌, ◌<◌, ◌≤◌, List, [], ◌∷◌, ◌++◌, length, get_or, map, take, Some, refl, sym, ap, ◌∙◌, subst, arith}
use Rattle.std.specs.List.{AllZip}
use Rattle.record_words.specs.Story.{At}

module _ {X : Type 0} where
  pub at_below : (xs : List X) (i : ℕ) (x : X) → At xs i x → i < length xs
  at_below [] i x e = absurd cc
  at_below (y ∷ ys) zero x e = omega arith
  at_below (y ∷ ys) (suc i) x e = let h = at_below ys i x e in omega arith

  pub at_one : (xs : List X) (i : ℕ) (x y : X) → At xs i x → At xs i y → x ≡ y
  at_one xs i x y p q = cc

  pub at_here : (xs : List X) (x : X) (rest : List X) → At (xs ++ x ∷ rest) (length xs) x
  at_here [] x rest = refl
  at_here (y ∷ ys) x rest = at_here ys x rest

  pub at_front : (xs rest : List X) (i : ℕ) (x : X) → At xs i x → At (xs ++ rest) i x
  at_front [] rest i x e = absurd cc
  at_front (y ∷ ys) rest zero x e = e
  at_front (y ∷ ys) rest (suc i) x e = at_front ys rest i x e

  pub take_front : (xs rest : List X) → take (length xs) (xs ++ rest) ≡ xs
  take_front [] rest = refl
  take_front (x ∷ xs) rest = ap (λ (z : List X). x ∷ z) (take_front xs rest)

  pub take_within : (xs rest : List X) (i : ℕ) → i ≤ length xs → take i (xs ++ rest) ≡ take i xs
  take_within xs rest zero h = refl
  take_within [] rest (suc i) h = absurd (omega arith)
  take_within (x ∷ xs) rest (suc i) h = ap (λ (z : List X). x ∷ z) (take_within xs rest i (omega arith))

  pub at_read : (xs : List X) (i : ℕ) (x d : X) → At xs i x → get_or xs i d ≡ x
  at_read [] i x d e = absurd cc
  at_read (y ∷ ys) zero x d e = cc
  at_read (y ∷ ys) (suc i) x d e = at_read ys i x d e

  -- the list around a place
  pub at_split : (xs : List X) (i : ℕ) (x : X) → At xs i x → (rest : List X) × (xs ≡ take i xs ++ x ∷ rest)
  at_split [] i x e = absurd cc
  at_split (y ∷ ys) zero x e = let h : y ≡ x = cc in (ys, ap (λ (z : X). z ∷ ys) h)
  at_split (y ∷ ys) (suc i) x e = let r = at_split ys i x e in (r.0, ap (λ (z : List X). y ∷ z) r.1)

module _ {A B : Type 0} where
  pub at_map : (f : A → B) (xs : List A) (i : ℕ) (y : B) → At (map f xs) i y → (x : A) × (At xs i x × (f x ≡ y))
  at_map f [] i y e = absurd cc
  at_map f (x ∷ xs) zero y e = (x, (refl, cc))
  at_map f (x ∷ xs) (suc i) y e = at_map f xs i y e

  pub map_at : (f : A → B) (xs : List A) (i : ℕ) (x : A) → At xs i x → At (map f xs) i (f x)
  map_at f [] i x e = absurd cc
  map_at f (y ∷ ys) zero x e = let h : y ≡ x = cc in ap (λ (z : A). Some (f z)) h
  map_at f (y ∷ ys) (suc i) x e = map_at f ys i x e

  module _ (R : A → B → Type 0) where
    pub zip_push : (xs : List A) (ys : List B) (x : A) (y : B) → AllZip R xs ys → R x y → AllZip R (xs ++ x ∷ []) (ys ++ y ∷ [])
    zip_push [] [] x y all r = (r, tt)
    zip_push [] (b ∷ bs) x y all r = absurd all
    zip_push (a ∷ rest) [] x y all r = absurd all
    zip_push (a ∷ rest) (b ∷ bs) x y all r = (all.0, zip_push rest bs x y all.1 r)

    pub zip_at : (xs : List A) (ys : List B) (i : ℕ) (x : A) → AllZip R xs ys → At xs i x → (y : B) × (At ys i y × R x y)
    zip_at [] ys i x all e = absurd cc
    zip_at (a ∷ rest) [] i x all e = absurd all
    zip_at (a ∷ rest) (b ∷ bs) zero x all e = let h : a ≡ x = cc in subst (λ (z : A). (y : B) × (At (b ∷ bs) 0 y × R z y)) h (b, (refl, all.0))
    zip_at (a ∷ rest) (b ∷ bs) (suc i) x all e = zip_at rest bs i x all.1 e

    pub zip_back : (xs : List A) (ys : List B) (i : ℕ) (y : B) → AllZip R xs ys → At ys i y → (x : A) × (At xs i x × R x y)
    zip_back xs [] i y all e = absurd cc
    zip_back [] (b ∷ bs) i y all e = absurd all
    zip_back (a ∷ rest) (b ∷ bs) zero y all e = let h : b ≡ y = cc in subst (λ (z : B). (x : A) × (At (a ∷ rest) 0 x × R x z)) h (a, (refl, all.0))
    zip_back (a ∷ rest) (b ∷ bs) (suc i) y all e = zip_back rest bs i y all.1 e

  pub zip_map : (R S : A → B → Type 0) → ((x : A) (y : B) → R x y → S x y) → (xs : List A) (ys : List B) → AllZip R xs ys → AllZip S xs ys
  zip_map R S f [] [] all = tt
  zip_map R S f [] (b ∷ bs) all = absurd all
  zip_map R S f (a ∷ rest) [] all = absurd all
  zip_map R S f (a ∷ rest) (b ∷ bs) all = (f a b all.0, zip_map R S f rest bs all.1)
