-- What stands where in lists.
use Rattle.std.proofs.Common.{◌≡◌, ◌⊎◌, inl, inr, ⊎_elim, ℕ, zero, suc, ◌+◌, ◌-◌, ◌<◌, ◌≤◌, All, List, [], ◌∷◌, ◌++◌, length, get_or, take, slice_set, refl, sym, ap, ◌∙◌, subst, arith}
use Rattle.std.proofs.lemmas.Bool.{cases_lt}
use mathlib.Core.Option.{some}
use lib.ListN.{get_elem?}

module _ {X : Type 0} where
  pub at_below : (xs : List X) (p : ℕ) (x : X) → get_elem? xs p ≡ some x → p < length xs
  at_below [] p x e = absurd cc
  at_below (y ∷ ys) zero x e = omega arith
  at_below (y ∷ ys) (suc p) x e = let h = at_below ys p x e in omega arith

  pub at_there : (xs : List X) (p : ℕ) (d : X) → p < length xs → get_elem? xs p ≡ some (get_or xs p d)
  at_there [] p d h = absurd (omega arith)
  at_there (x ∷ xs) zero d h = refl
  at_there (x ∷ xs) (suc p) d h = at_there xs p d (omega arith)

  pub at_some : (xs : List X) (p : ℕ) → p < length xs → (x : X) × (get_elem? xs p ≡ some x)
  at_some [] p h = absurd (omega arith)
  at_some (x ∷ xs) zero h = (x, refl)
  at_some (x ∷ xs) (suc p) h = at_some xs p (omega arith)

  -- in the first of two lists, and in the second
  pub at_first : (xs ys : List X) (p n : ℕ) (x : X) → length xs ≡ n → p < n → get_elem? (xs ++ ys) p ≡ some x → get_elem? xs p ≡ some x
  at_first [] ys p n x l h e = absurd (omega arith)
  at_first (z ∷ zs) ys zero n x l h e = e
  at_first (z ∷ zs) ys (suc p) n x l h e = at_first zs ys p (length zs) x refl (omega arith) e

  after_first : (xs ys : List X) (p : ℕ) (x : X) → get_elem? (xs ++ ys) (length xs + p) ≡ some x → get_elem? ys p ≡ some x
  after_first [] ys p x e = subst (λ (q : ℕ). get_elem? ys q ≡ some x) (let z : length {A = X} [] + p ≡ p = omega arith in z) e
  after_first (z ∷ zs) ys p x e =
      let n : length (z ∷ zs) + p ≡ suc (length zs + p) = omega arith in
      after_first zs ys p x (subst (λ (q : ℕ). get_elem? (z ∷ zs ++ ys) q ≡ some x) n e)

  pub at_second : (xs ys : List X) (p n : ℕ) (x : X) → length xs ≡ n → n ≤ p → get_elem? (xs ++ ys) p ≡ some x → get_elem? ys (p - n) ≡ some x
  at_second xs ys p n x l h e =
      let q : p ≡ length xs + (p - n) = omega arith in
      after_first xs ys (p - n) x (subst (λ (k : ℕ). get_elem? (xs ++ ys) k ≡ some x) q e)

  pub first_at : (xs ys : List X) (p : ℕ) (x : X) → get_elem? xs p ≡ some x → get_elem? (xs ++ ys) p ≡ some x
  first_at [] ys p x e = absurd cc
  first_at (z ∷ zs) ys zero x e = e
  first_at (z ∷ zs) ys (suc p) x e = first_at zs ys p x e

  pub second_at : (xs ys : List X) (p : ℕ) (x : X) → get_elem? ys p ≡ some x → get_elem? (xs ++ ys) (length xs + p) ≡ some x
  second_at [] ys p x e = subst (λ (q : ℕ). get_elem? ys q ≡ some x) (let z : p ≡ length {A = X} [] + p = omega arith in z) e
  second_at (z ∷ zs) ys p x e =
      let n : suc (length zs + p) ≡ length (z ∷ zs) + p = omega arith in
      subst (λ (q : ℕ). get_elem? (z ∷ zs ++ ys) q ≡ some x) n (second_at zs ys p x e)

  pub last_at : (xs : List X) (x : X) → get_elem? (xs ++ x ∷ []) (length xs) ≡ some x
  last_at [] x = refl
  last_at (y ∷ ys) x = last_at ys x

  pub mid_at : (xs : List X) (x : X) (ys : List X) → get_elem? (xs ++ x ∷ ys) (length xs) ≡ some x
  mid_at [] x ys = refl
  mid_at (z ∷ zs) x ys = mid_at zs x ys

  -- one more at the end: it, or one of those before
  pub at_snoc : (xs : List X) (y : X) (p : ℕ) (x : X) → get_elem? (xs ++ y ∷ []) p ≡ some x → (get_elem? xs p ≡ some x) ⊎ ((p ≡ length xs) × (y ≡ x))
  at_snoc [] y zero x e = inr (refl, cc)
  at_snoc [] y (suc p) x e = absurd cc
  at_snoc (z ∷ zs) y zero x e = inl e
  at_snoc (z ∷ zs) y (suc p) x e = ⊎_elim (λ (h : get_elem? zs p ≡ some x). inl h) (λ (h : (p ≡ length zs) × (y ≡ x)). inr (let s : suc p ≡ length (z ∷ zs) = (let i = h.0 in omega arith) in s, h.1)) (at_snoc zs y p x e)

  pub at_read : (xs : List X) (p : ℕ) (x d : X) → get_elem? xs p ≡ some x → get_or xs p d ≡ x
  at_read [] p x d e = absurd cc
  at_read (y ∷ ys) zero x d e = cc
  at_read (y ∷ ys) (suc p) x d e = at_read ys p x d e

  pub take_whole : (n : ℕ) (xs rest : List X) → n ≡ length xs → take n (xs ++ rest) ≡ xs
  take_whole n xs rest is = ap (λ (k : ℕ). take k (xs ++ rest)) is ∙ front xs
    where
      front : (ys : List X) → take (length ys) (ys ++ rest) ≡ ys
      front [] = refl
      front (y ∷ ys) = ap (λ (l : List X). y ∷ l) (front ys)

  -- what holds of all holds of one
  pub of_all : (P : X → Type 0) (xs : List X) (p : ℕ) (x : X) → All P xs → get_elem? xs p ≡ some x → P x
  of_all P xs p x all e = subst P (at_read xs p x x e) (all p x (at_below xs p x e))

  -- what holds of all holds of the first ones, and of the last one
  pub of_front : (P : X → Type 0) (all xs : List X) (x : X) → All P all → all ≡ xs ++ x ∷ [] → All P xs
  of_front P all xs x holds cut = λ p d below. of_all P (xs ++ x ∷ []) p (get_or xs p d) (subst (All P) cut holds) (first_at xs (x ∷ []) p (get_or xs p d) (at_there xs p d below))

  pub of_last : (P : X → Type 0) (all xs : List X) (x : X) → All P all → all ≡ xs ++ x ∷ [] → P x
  of_last P all xs x holds cut = of_all P (xs ++ x ∷ []) (length xs) x (subst (All P) cut holds) (last_at xs x)

  -- what holds wherever one stands holds of all
  pub to_all : (P : X → Type 0) (xs : List X) → ((p : ℕ) (x : X) → get_elem? xs p ≡ some x → P x) → All P xs
  to_all P xs each = λ p d below. each p (get_or xs p d) (at_there xs p d below)

  -- what holds of each element and of one more
  pub each_and_last : (P : ℕ → X → Type 0) (xs : List X) (y : X) (zs : List X) → zs ≡ xs ++ y ∷ [] → ((p : ℕ) (x : X) → get_elem? xs p ≡ some x → P p x) → P (length xs) y → (p : ℕ) (x : X) → get_elem? zs p ≡ some x → P p x
  each_and_last P xs y zs is each last p x at =
      ⊎_elim (λ (h : get_elem? xs p ≡ some x). each p x h)
      (λ (h : (p ≡ length xs) × (y ≡ x)). subst (λ (k : ℕ). P k x) (sym h.0) (subst (P (length xs)) h.1 last))
      (at_snoc xs y p x (subst (λ (l : List X). get_elem? l p ≡ some x) is at))

  -- the only element
  pub only_read : (xs : List X) (p : ℕ) (x d : X) → length xs ≡ 1 → get_elem? xs p ≡ some x → get_or xs 0 d ≡ x
  only_read [] p x d l e = absurd (omega arith)
  only_read (y ∷ []) zero x d l e = cc
  only_read (y ∷ []) (suc p) x d l e = absurd cc
  only_read (y ∷ z ∷ zs) p x d l e = absurd (omega arith)

  pub only_set : (xs : List X) (p : ℕ) (x y : X) → length xs ≡ 1 → get_elem? (slice_set xs 0 y) p ≡ some x → y ≡ x
  only_set [] p x y l e = absurd (omega arith)
  only_set (z ∷ []) zero x y l e = cc
  only_set (z ∷ []) (suc p) x y l e = absurd cc
  only_set (z ∷ w ∷ zs) p x y l e = absurd (omega arith)

module _ {K S : Type 0} (P : K → K → S → S → Type 0) where
  -- what holds at each place of four lists
  abbrev pub Along : List K → List K → List S → List S → Type 0
  Along ks ls ss ts = (p : ℕ) (k l : K) (s t : S) → get_elem? ks p ≡ some k → get_elem? ls p ≡ some l → get_elem? ss p ≡ some s → get_elem? ts p ≡ some t → P k l s t

  pub along_one : (ks : List K) (l d : K) (ss : List S) (t e : S) → length ks ≡ 1 → length ss ≡ 1 → P (get_or ks 0 d) l (get_or ss 0 e) t → Along ks (slice_set ks 0 l) ss (slice_set ss 0 t)
  along_one ks l d ss t e lk ls holds = λ p k m s u at_k at_m at_s at_u.
      subst (λ (x : K). P x m s u) (only_read ks p k d lk at_k)
      (subst (λ (x : K). P (get_or ks 0 d) x s u) (only_set ks p m l lk at_m)
      (subst (λ (x : S). P (get_or ks 0 d) l x u) (only_read ss p s e ls at_s)
      (subst (λ (x : S). P (get_or ks 0 d) l (get_or ss 0 e) x) (only_set ss p u t ls at_u) holds)))

  pub along_both : (n : ℕ) (ks ls ks2 ls2 : List K) (ss ts ss2 ts2 : List S) → length ks ≡ n → length ls ≡ n → length ss ≡ n → length ts ≡ n → Along ks ls ss ts → Along ks2 ls2 ss2 ts2 → Along (ks ++ ks2) (ls ++ ls2) (ss ++ ss2) (ts ++ ts2)
  along_both n ks ls ks2 ls2 ss ts ss2 ts2 nk nl ns nt here there = λ p k l s t at_k at_l at_s at_t.
      elim (cases_lt p n) [
        | inl below ↦ here p k l s t (at_first ks ks2 p n k nk below at_k) (at_first ls ls2 p n l nl below at_l) (at_first ss ss2 p n s ns below at_s) (at_first ts ts2 p n t nt below at_t)
        | inr above ↦ there (p - n) k l s t (at_second ks ks2 p n k nk above at_k) (at_second ls ls2 p n l nl above at_l) (at_second ss ss2 p n s ns above at_s) (at_second ts ts2 p n t nt above at_t)
      ]
