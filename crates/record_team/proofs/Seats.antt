-- Seats that go out and come back.
use Rattle.std.proofs.Common.{◌≡◌, ◌⊎◌, inl, inr, ⊎_elim, ℕ, zero, suc, ◌+◌, ◌-◌, ◌<◌, All, List, [], ◌∷◌, ◌++◌, length, get_or, map, drop, Some, refl, sym, ap, ◌∙◌, subst, append_assoc, append-nil, length-append, zero-add, arith}
use mathlib.Core.List.{IsPrefix}
use Rattle.record_words.specs.Story.{At}
use Rattle.turn_desk.specs.declared.view.Joined.{Joined}
use Rattle.turn_desk.specs.declared.view.View.{View}
use Rattle.turn_desk.specs.Story.{joined_with, split_from}
use Rattle.record_team.specs.Team.{after_splits, joined_of, IsBack}

module _ {X : Type 0} where
  pub at_below : (xs : List X) (i : ℕ) (x : X) → At xs i x → i < length xs
  at_below [] i x e = absurd cc
  at_below (y ∷ ys) zero x e = omega arith
  at_below (y ∷ ys) (suc i) x e = let h = at_below ys i x e in omega arith

  pub at_append : (xs rest : List X) (i : ℕ) (x : X) → At (xs ++ rest) i x → At xs i x ⊎ ((j : ℕ) × (At rest j x × (i ≡ length xs + j)))
  at_append [] rest i x e = inr (i, (e, sym (zero-add i)))
  at_append (y ∷ ys) rest zero x e = inl e
  at_append (y ∷ ys) rest (suc i) x e = ⊎_elim (λ (h : At ys i x). inl h) (λ (h : (j : ℕ) × (At rest j x × (i ≡ length ys + j))). inr (h.0, (h.1.0, (let s = h.1.1 in omega arith)))) (at_append ys rest i x e)

  -- one more at the end: it, or one of those before
  pub at_snoc : (xs : List X) (y : X) (i : ℕ) (x : X) → At (xs ++ y ∷ []) i x → At xs i x ⊎ ((i ≡ length xs) × (x ≡ y))
  at_snoc xs y i x e = ⊎_elim (λ (h : At xs i x). inl h) (λ (h : (j : ℕ) × (At (y ∷ []) j x × (i ≡ length xs + j))). inr (only h.0 h.1.0 h.1.1)) (at_append xs (y ∷ []) i x e)
    where
      only : (j : ℕ) → At (y ∷ []) j x → i ≡ length xs + j → (i ≡ length xs) × (x ≡ y)
      only zero at is = (let e : i ≡ length xs = omega arith in e, cc)
      only (suc j) at is = absurd cc

  pub get_there : (xs : List X) (x d : X) (rest : List X) → get_or (xs ++ x ∷ rest) (length xs) d ≡ x
  get_there [] x d rest = refl
  get_there (y ∷ ys) x d rest = get_there ys x d rest

  -- what holds of all holds of one among them
  pub of_all : (P : X → Type 0) (all xs : List X) (x : X) (rest : List X) → All P all → all ≡ xs ++ x ∷ rest → P x
  of_all P all xs x rest holds cut =
      let below : length xs < length all = (let l = ap length cut in let m = length-append xs (x ∷ rest) in omega arith) in
      subst P (ap (λ (l : List X). get_or l (length xs) x) cut ∙ get_there xs x x rest) (holds (length xs) x below)

  pub at_read : (xs : List X) (i : ℕ) (x d : X) → At xs i x → get_or xs i d ≡ x
  at_read [] i x d e = absurd cc
  at_read (y ∷ ys) zero x d e = cc
  at_read (y ∷ ys) (suc i) x d e = at_read ys i x d e

  pub at_there : (xs : List X) (i : ℕ) → i < length xs → (x : X) × At xs i x
  at_there [] i h = absurd (omega arith)
  at_there (x ∷ xs) zero h = (x, refl)
  at_there (x ∷ xs) (suc i) h = at_there xs i (omega arith)

module _ {X Y : Type 0} (f : X → Y) where
  pub map_then : (xs : List X) (x : X) → map f (xs ++ x ∷ []) ≡ map f xs ++ f x ∷ []
  map_then [] x = refl
  map_then (y ∷ ys) x = ap (λ (l : List Y). f y ∷ l) (map_then ys x)

  pub map_count : (xs : List X) → length (map f xs) ≡ length xs
  map_count [] = refl
  map_count (x ∷ xs) = ap (λ (n : ℕ). suc n) (map_count xs)

  pub at_mapped : (xs : List X) (i : ℕ) (y : Y) → At (map f xs) i y → (x : X) × (At xs i x × (f x ≡ y))
  at_mapped [] i y e = absurd cc
  at_mapped (x ∷ xs) zero y e = (x, (refl, cc))
  at_mapped (x ∷ xs) (suc i) y e = at_mapped xs i y e

  pub mapped_at : (xs : List X) (i : ℕ) (x : X) → At xs i x → At (map f xs) i (f x)
  mapped_at [] i x e = absurd cc
  mapped_at (y ∷ ys) zero x e = let h : y ≡ x = cc in ap (λ (z : X). Some (f z)) h
  mapped_at (y ∷ ys) (suc i) x e = mapped_at ys i x e

pub prefix_then : {N : Type 0} (a b c : List N) → IsPrefix a b → IsPrefix b c → IsPrefix a c
prefix_then {N} a b c p q = (p.0 ++ q.0, sym (append_assoc a p.0 q.0) ∙ (ap (λ (l : List N). l ++ q.0) p.1 ∙ q.1))

-- what holds of each element and of one more
pub each_and_last : {X : Type 0} (P : ℕ → X → Type 0) (xs : List X) (y : X) (zs : List X) → zs ≡ xs ++ y ∷ [] → ((i : ℕ) (x : X) → At xs i x → P i x) → P (length xs) y → (i : ℕ) (x : X) → At zs i x → P i x
each_and_last {X} P xs y zs is each last i x at =
    ⊎_elim (λ (h : At xs i x). each i x h)
    (λ (h : (i ≡ length xs) × (x ≡ y)). subst (λ (k : ℕ). P k x) (sym h.0) (subst (P (length xs)) (sym h.1) last))
    (at_snoc xs y i x (subst (λ (l : List X). At l i x) is at))

module _ {N O : Type 0} where
  -- one more seat goes out
  pub splits_more : (v : View N O) (n : ℕ) → split_from (after_splits v n) ≡ after_splits v (n + 1)
  splits_more v n =
      let out : v.out + n + 1 ≡ v.out + (n + 1) = omega arith in
      let made : v.made + n + 1 ≡ v.made + (n + 1) = omega arith in
      ap (λ (x : ℕ). record v { out = x; made = v.made + n + 1 }) out ∙ ap (λ (x : ℕ). record v { out = v.out + (n + 1); made = x }) made

  pub none_back : (v : View N O) → IsBack v [] v
  none_back v = record { number = refl; origin = refl; outside = refl; mine = refl; out = omega arith; joined = sym (append-nil v.joined); seen = λ i seat at. absurd cc }

  -- one more seat is back
  pub one_back : (before now : View N O) (seats : List (View N O)) (seat after : View N O) → IsBack before seats now → after ≡ joined_with now seat → IsPrefix seat.seen after.seen → IsBack before (seats ++ seat ∷ []) after
  one_back before now seats seat after back is prefix = record {
    number = ap (λ (v : View N O). v.number) is ∙ back.number;
    origin = ap (λ (v : View N O). v.origin) is ∙ back.origin;
    outside = ap (λ (v : View N O). v.inside) is ∙ back.outside;
    mine = ap (λ (v : View N O). v.mine) is ∙ back.mine;
    out = (let o : after.out ≡ now.out - 1 = ap (λ (v : View N O). v.out) is in let l = length-append seats (seat ∷ []) in let b = back.out in omega arith);
    joined =
        ap (λ (v : View N O). v.joined) is
        ∙ (ap (λ (l : List (Joined N)). l ++ joined_of seat ∷ []) back.joined
        ∙ (append_assoc before.joined (map joined_of seats) (joined_of seat ∷ []) ∙ ap (λ (l : List (Joined N)). before.joined ++ l) (sym (map_then joined_of seats seat))));
    seen = λ i other at.
        ⊎_elim
        (λ (h : At seats i other). prefix_then other.seen now.seen after.seen (back.seen i other h) (drop (length now.seen) seat.seen, sym (ap (λ (v : View N O). v.seen) is)))
        (λ (h : (i ≡ length seats) × (other ≡ seat)). subst (λ (v : View N O). IsPrefix v.seen after.seen) (sym h.1) prefix)
        (at_snoc seats seat i other at);
  }

pub at_get : {X : Type 0} (xs : List X) (i : ℕ) (d : X) → i < length xs → At xs i (get_or xs i d)
at_get [] i d h = absurd (omega arith)
at_get (x ∷ xs) zero d h = refl
at_get (x ∷ xs) (suc i) d h = at_get xs i d (omega arith)
