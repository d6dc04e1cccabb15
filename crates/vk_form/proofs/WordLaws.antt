use Rattle.std.proofs.Common.{◌≡◌, ℕ, ◌^◌, ◌%◌, ◌/◌, List, [], ◌∷◌, ◌++◌, length, refl, sym, ap, ◌∙◌, append_assoc, arith}
use Rattle.std.specs.Prelude.{Some, None}
use Rattle.std.specs.List.{flat_map}
use Rattle.std.proofs.lemmas.List.Concat.{flat_map-cons}
use Rattle.foz_words.specs.declared.unit.Unit.{Unit}
use Rattle.foz_words.specs.declared.unit.Unit.TheVariants.{Zero, One}
use Rattle.foz_words.specs.Unit.{number_of}
use Rattle.vk_form.specs.Shape.{Shape, number, unit, hash, text, bytes, four_units, list, struct, Fields, end, field, optional}
use Rattle.vk_form.specs.Words.{counted, flagged, words, field_words}
use Rattle.vk_form.specs.WordLaw.{Tells, EqualWordsEqualValues}

-- two pairs with equal parts
pair_same : {A B : Type 0} (x y : A × B) → x.0 ≡ y.0 → x.1 ≡ y.1 → x ≡ y
pair_same x y first second = pair_of first second
  where
    pair_of : {A B : Type 0} {a c : A} {b d : B} → a ≡ c → b ≡ d → ◌≡◌ {A = A × B} (a, b) (c, d)
    pair_of first second = cc

number_of_tells : (u v : Unit) → number_of u ≡ number_of v → u ≡ v
number_of_tells Zero Zero e = refl
number_of_tells Zero One e = cc
number_of_tells One Zero e = cc
number_of_tells One One e = refl

same_length_splits : {A : Type 0} (t u p q : List A) → length t ≡ length u → t ++ p ≡ u ++ q → (t ≡ u) × (p ≡ q)
same_length_splits [] [] p q n e = (refl, e)
same_length_splits [] (y ∷ u) p q n e = absurd cc
same_length_splits (x ∷ t) [] p q n e = absurd cc
same_length_splits (x ∷ t) (y ∷ u) p q n e =
    let lengths : length t ≡ length u = cc in
    let tails : t ++ p ≡ u ++ q = cc in
    let rest = same_length_splits t u p q lengths tails in
    let same = rest.0 in
    (cc, rest.1)

counted_tells : Tells counted
counted_tells t u p q e =
    let lengths : length t ≡ length u = cc in
    let tails : t ++ p ≡ u ++ q = cc in
    same_length_splits t u p q lengths tails

each_tells : {A : Type 0} (w : A → List ℕ) → Tells w → (xs ys : List A) (p q : List ℕ) → length xs ≡ length ys → flat_map w xs ++ p ≡ flat_map w ys ++ q → (xs ≡ ys) × (p ≡ q)
each_tells w tells [] [] p q n e = (refl, e)
each_tells w tells [] (y ∷ ys) p q n e = absurd cc
each_tells w tells (x ∷ xs) [] p q n e = absurd cc
each_tells w tells (x ∷ xs) (y ∷ ys) p q n e =
    let regrouped : w x ++ (flat_map w xs ++ p) ≡ w y ++ (flat_map w ys ++ q) =
    sym (append_assoc (w x) (flat_map w xs) p) ∙ ap (λ (l : List ℕ). l ++ p) (sym (flat_map-cons w x xs)) ∙ e ∙ ap (λ (l : List ℕ). l ++ q) (flat_map-cons w y ys) ∙ append_assoc (w y) (flat_map w ys) q in
    let first = tells x y (flat_map w xs ++ p) (flat_map w ys ++ q) regrouped in
    let lengths : length xs ≡ length ys = cc in
    let others = each_tells w tells xs ys p q lengths first.1 in
    let same_first = first.0 in
    let same_others = others.0 in
    (cc, others.1)

list_tells : {A : Type 0} (w : A → List ℕ) → Tells w → Tells (λ (xs : List A). length xs ∷ flat_map w xs)
list_tells w tells xs ys p q e =
    let lengths : length xs ≡ length ys = cc in
    let tails : flat_map w xs ++ p ≡ flat_map w ys ++ q = cc in
    each_tells w tells xs ys p q lengths tails

flagged_tells : {A : Type 0} (w : A → List ℕ) → Tells w → Tells (flagged w)
flagged_tells w tells None None p q e = (refl, cc)
flagged_tells w tells None (Some y) p q e = absurd cc
flagged_tells w tells (Some x) None p q e = absurd cc
flagged_tells w tells (Some x) (Some y) p q e =
    let behind : w x ++ p ≡ w y ++ q = cc in
    let inner = tells x y p q behind in
    (ap Some inner.0, inner.1)

unit_tells : (x y : Unit) (p q : List ℕ) → words unit x ++ p ≡ words unit y ++ q → (x ≡ y) × (p ≡ q)
unit_tells x y p q e =
    let n : number_of x ≡ number_of y = cc in
    (number_of_tells x y n, cc)

hash_tells : (h k : ℕ) (p q : List ℕ) → words hash h ++ p ≡ words hash k ++ q → (h ≡ k) × (p ≡ q)
hash_tells h k p q e =
    let low : h % 2 ^ 32 ≡ k % 2 ^ 32 = cc in
    let high : h / 2 ^ 32 ≡ k / 2 ^ 32 = cc in
    (omega arith, cc)

four_units_tells : (x y : Unit × (Unit × (Unit × Unit))) (p q : List ℕ) → words four_units x ++ p ≡ words four_units y ++ q → (x ≡ y) × (p ≡ q)
four_units_tells x y p q e =
    let n0 : number_of x.0 ≡ number_of y.0 = cc in
    let n1 : number_of x.1.0 ≡ number_of y.1.0 = cc in
    let n2 : number_of x.1.1.0 ≡ number_of y.1.1.0 = cc in
    let n3 : number_of x.1.1.1 ≡ number_of y.1.1.1 = cc in
    let last = pair_same x.1.1 y.1.1 (number_of_tells x.1.1.0 y.1.1.0 n2) (number_of_tells x.1.1.1 y.1.1.1 n3) in
    let more = pair_same x.1 y.1 (number_of_tells x.1.0 y.1.0 n1) last in
    (pair_same x y (number_of_tells x.0 y.0 n0) more, cc)

mutual
  pub words_tell : (s : Shape) → Tells (words s)
  words_tell number x y p q e = (cc, cc)
  words_tell unit x y p q e = unit_tells x y p q e
  words_tell hash x y p q e = hash_tells x y p q e
  words_tell text x y p q e = counted_tells x y p q e
  words_tell bytes x y p q e = counted_tells x y p q e
  words_tell four_units x y p q e = four_units_tells x y p q e
  words_tell (list s) x y p q e = list_tells (words s) (words_tell s) x y p q e
  words_tell (struct fs) x y p q e = field_words_tell fs x y p q e

  pub field_words_tell : (fs : Fields) → Tells (field_words fs)
  field_words_tell end x y p q e = (refl, e)
  field_words_tell (field name s fs) x y p q e =
      let regrouped : words s x.0 ++ (field_words fs x.1 ++ p) ≡ words s y.0 ++ (field_words fs y.1 ++ q) =
      sym (append_assoc (words s x.0) (field_words fs x.1) p) ∙ e ∙ append_assoc (words s y.0) (field_words fs y.1) q in
      let first = words_tell s x.0 y.0 (field_words fs x.1 ++ p) (field_words fs y.1 ++ q) regrouped in
      let others = field_words_tell fs x.1 y.1 p q first.1 in
      (pair_same x y first.0 others.0, others.1)
  field_words_tell (optional name o fs) x y p q e =
      let regrouped : flagged (field_words o) x.0 ++ (field_words fs x.1 ++ p) ≡ flagged (field_words o) y.0 ++ (field_words fs y.1 ++ q) =
      sym (append_assoc (flagged (field_words o) x.0) (field_words fs x.1) p) ∙ e ∙ append_assoc (flagged (field_words o) y.0) (field_words fs y.1) q in
      let first = flagged_tells (field_words o) (field_words_tell o) x.0 y.0 (field_words fs x.1 ++ p) (field_words fs y.1 ++ q) regrouped in
      let others = field_words_tell fs x.1 y.1 p q first.1 in
      (pair_same x y first.0 others.0, others.1)

pub equal_words_equal_values : EqualWordsEqualValues
equal_words_equal_values s x y e = (words_tell s x y [] [] (ap (λ (l : List ℕ). l ++ []) e)).0
