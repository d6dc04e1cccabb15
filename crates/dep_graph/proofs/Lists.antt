-- Lists with one element more.
use Rattle.std.proofs.Common.{◌≡◌, ℕ, zero, suc, ◌+◌, ◌<◌, Bool, true, false, cond, List, [], ◌∷◌, ◌++◌, length, map, Option, Some, None, refl, sym, ap, ◌∙◌, arith}
use Rattle.std.specs.Prelude.{position, count_by, slice_get}
use Rattle.std.specs.List.{AllZip, items_where_true, range_with_len, position_from}
use Rattle.std.proofs.lemmas.Iterator.Adapters.{position_from-zero}
use Rattle.std.proofs.lemmas.List.Sums.{sum_by-cons}
use Rattle.record_words.proofs.Rows.{first_or}

module _ {X : Type 0} (p : X → Bool) where
  position_from_push : (i : ℕ) (xs : List X) (x : X) (n : ℕ) → n ≡ i + length xs → position_from p i (xs ++ x ∷ []) ≡ first_or (position_from p i xs) (p x) n
  position_from_push i [] x n e = by_test (p x) (omega arith)
    where
      by_test : (b : Bool) → n ≡ i → cond b (Some i) None ≡ first_or None b n
      by_test true e = ap Some (sym e)
      by_test false e = refl
  position_from_push i (y ∷ ys) x n e = by_test (p y) (position_from_push (i + 1) ys x n (omega (arith, e)))
    where
      by_test : (b : Bool) → position_from p (i + 1) (ys ++ x ∷ []) ≡ first_or (position_from p (i + 1) ys) (p x) n
          → cond b (Some i) (position_from p (i + 1) (ys ++ x ∷ [])) ≡ first_or (cond b (Some i) (position_from p (i + 1) ys)) (p x) n
      by_test true more = refl
      by_test false more = more

  pub position_push : (xs : List X) (x : X) → position p (xs ++ x ∷ []) ≡ first_or (position p xs) (p x) (length xs)
  position_push xs x =
      position_from-zero p (xs ++ x ∷ []) ∙ (position_from_push 0 xs x (length xs) (omega arith) ∙ ap (λ o. first_or o (p x) (length xs)) (sym (position_from-zero p xs)))

  pub picked_count : {Y : Type 0} (xs : List X) (ys : List Y) → length xs ≡ length ys → length (items_where_true (map p xs) ys) ≡ count_by p xs
  picked_count [] [] e = refl
  picked_count [] (y ∷ ys) e = refl
  picked_count (x ∷ xs) [] e = absurd (omega (arith, e))
  picked_count {Y} (x ∷ xs) (y ∷ ys) e = by_test (p x) (picked_count xs ys (omega (arith, e))) ∙ sym (sum_by-cons (λ z. cond (p z) 1 0) x xs)
    where
      by_test : (b : Bool) → length (items_where_true (map p xs) ys) ≡ count_by p xs → length (items_where_true (b ∷ map p xs) (y ∷ ys)) ≡ cond b 1 0 + count_by p xs
      by_test true more = omega (arith, more)
      by_test false more = omega (arith, more)

pub first_alone : (o : Option ℕ) (n : ℕ) → first_or o false n ≡ o
first_alone (Some i) n = refl
first_alone None n = refl

pub picked_push : {X : Type 0} (bs : List Bool) (xs : List X) (b : Bool) (x : X) → length bs ≡ length xs → items_where_true (bs ++ b ∷ []) (xs ++ x ∷ []) ≡ items_where_true bs xs ++ cond b (x ∷ []) []
picked_push [] [] true x e = refl
picked_push [] [] false x e = refl
picked_push [] (y ∷ ys) b x e = absurd (omega (arith, e))
picked_push (c ∷ bs) [] b x e = absurd (omega (arith, e))
picked_push (true ∷ bs) (y ∷ ys) b x e = ap (λ zs. y ∷ zs) (picked_push bs ys b x (omega (arith, e)))
picked_push (false ∷ bs) (y ∷ ys) b x e = picked_push bs ys b x (omega (arith, e))

range_from_push : (a n m : ℕ) → m ≡ a + n → range_with_len a (suc n) ≡ range_with_len a n ++ m ∷ []
range_from_push a zero m e = let same : a ≡ m = omega (arith, e) in ap (λ k. k ∷ []) same
range_from_push a (suc n) m e = ap (λ ks. a ∷ ks) (range_from_push (a + 1) n m (omega (arith, e)))

pub range_push : (n m : ℕ) → m ≡ n + 1 → range_with_len 0 m ≡ range_with_len 0 n ++ n ∷ []
range_push n m e = let same : m ≡ suc n = omega (arith, e) in ap (range_with_len 0) same ∙ range_from_push 0 n n (omega arith)

module _ {A B : Type 0} where
  pub pairs_push : (R : A → B → Type 0) (xs : List A) (ys : List B) (x : A) (y : B) → AllZip R xs ys → R x y → AllZip R (xs ++ x ∷ []) (ys ++ y ∷ [])
  pairs_push R [] [] x y h r = (r, tt)
  pairs_push R [] (v ∷ vs) x y h r = absurd h
  pairs_push R (u ∷ us) [] x y h r = absurd h
  pairs_push R (u ∷ us) (v ∷ vs) x y h r = (h.0, pairs_push R us vs x y h.1 r)

  pub pairs_map : {C : Type 0} (R : A → B → Type 0) (S : A → C → Type 0) (f : B → C) (xs : List A) (ys : List B) → ((x : A) (y : B) → R x y → S x (f y)) → AllZip R xs ys → AllZip S xs (map f ys)
  pairs_map R S f [] [] g h = tt
  pairs_map R S f [] (v ∷ vs) g h = absurd h
  pairs_map R S f (u ∷ us) [] g h = absurd h
  pairs_map R S f (u ∷ us) (v ∷ vs) g h = (g u v h.0, pairs_map R S f us vs g h.1)

pub got_before : {X : Type 0} (xs : List X) (x : X) (i : ℕ) → i < length xs → slice_get (xs ++ x ∷ []) i ≡ slice_get xs i
got_before [] x i h = absurd (omega (arith, h))
got_before (y ∷ ys) x zero h = refl
got_before (y ∷ ys) x (suc i) h = got_before ys x i (omega (arith, h))

pub got_last : {X : Type 0} (xs : List X) (x : X) (i : ℕ) → i ≡ length xs → slice_get (xs ++ x ∷ []) i ≡ Some x
got_last [] x i e = let none : i ≡ 0 = omega (arith, e) in ap (slice_get (x ∷ [])) none
got_last (y ∷ ys) x zero e = absurd (omega (arith, e))
got_last (y ∷ ys) x (suc i) e = got_last ys x i (omega (arith, e))
