-- Numbers that are looked at one after the other: whether they are distinct, and whether they share bits.
use Rattle.std.proofs.Common.{ℕ, suc, ◌≡◌, ◌≢◌, ◌+◌, ◌<◌, ◌≤◌, ◌⊎◌, inl, inr, min, max, Bool, true, false, cond, not, ◌==◌, ◌&&◌, ◌||◌, List, [], ◌∷◌, length, get_or, drop, map, bit_and, bit_or, refl, ap, sym, ◌∙◌, add-one, drop-cons, arith}
use Rattle.std.proofs.lemmas.Bool.Decides.{nat_tests}
use Rattle.std.proofs.lemmas.List.{drop-map, get_or-map, length-map, drop_all}
use Rattle.std.proofs.lemmas.Nat.{and_or_apart}
use Rattle.std.proofs.lemmas.Nat.Bits.{bit_at_and, bit_at_or, bit_at-zero, same_from_bits}
use Rattle.std.specs.Int.{bit_at}
use Rattle.std.specs.List.{list_all, list_any}
use Rattle.std.specs.Ordering.{is_eq, nat_cmp}
use Rattle.driver_rules.specs.Numbers.{are_distinct, share_no_bit}

-- ---- numbers apart from those that were seen

-- none of these was seen, and they are distinct
abbrev pub are_new : (ℕ → Bool) → List ℕ → Bool
are_new seen ns = list_all (λ n. not (seen n)) ns && are_distinct ns

all_unseen : (seen : ℕ → Bool) → ((q : ℕ) → seen q ≡ false) → (ns : List ℕ) → list_all (λ n. not (seen n)) ns ≡ true
all_unseen seen none [] = refl
all_unseen seen none (n ∷ ns) = rw (none n) (all_unseen seen none ns)

pub new_first : (seen : ℕ → Bool) (ns : List ℕ) → ((q : ℕ) → seen q ≡ false) → are_new seen ns ≡ are_distinct ns
new_first seen ns none = rw (all_unseen seen none ns) refl

pub new_again : (seen : ℕ → Bool) (ns : List ℕ) (i : ℕ) → i < length ns → seen (get_or ns i 0) ≡ true → are_new seen (drop i ns) ≡ false
new_again seen ns i lt e = rw (drop-cons ns i 0, e) refl

split_not : (a b : Bool) → not (cond a true b) ≡ (not b && not a)
split_not true true = refl
split_not true false = refl
split_not false true = refl
split_not false false = refl

not_or : (a b : Bool) → not (a || b) ≡ (not a && not b)
not_or true b = refl
not_or false b = refl

one_more_seen : (seen after : ℕ → Bool) (k : ℕ) → ((q : ℕ) → after q ≡ cond (q == k) true (seen q)) → (ns : List ℕ)
    → list_all (λ n. not (after n)) ns ≡ (list_all (λ n. not (seen n)) ns && not (list_any (λ n. n == k) ns))
one_more_seen seen after k step [] = refl
one_more_seen seen after k step (n ∷ ns) =
    rw (step n, one_more_seen seen after k step ns, split_not (n == k) (seen n), not_or (n == k) (list_any (λ m. m == k) ns))
    (shuffled (not (seen n)) (not (n == k)) (list_all (λ m. not (seen m)) ns) (not (list_any (λ m. m == k) ns)))
  where
    shuffled : (a b c d : Bool) → ((a && b) && (c && d)) ≡ ((a && c) && (b && d))
    shuffled true true c d = refl
    shuffled true false true d = refl
    shuffled true false false d = refl
    shuffled false b c d = refl

moved : (a b c : Bool) → ((a && b) && c) ≡ (a && (b && c))
moved true b c = refl
moved false b c = refl

pub new_next : (seen after : ℕ → Bool) (ns : List ℕ) (i : ℕ) → i < length ns → seen (get_or ns i 0) ≡ false → ((q : ℕ) → after q ≡ cond (q == get_or ns i 0) true (seen q))
    → are_new after (drop (i + 1) ns) ≡ are_new seen (drop i ns)
unfolding are_distinct
new_next seen after ns i lt unseen step =
    rw (drop-cons ns i 0, unseen, add-one, one_more_seen seen after (get_or ns i 0) step (drop (suc i) ns))
    (moved (list_all (λ n. not (seen n)) (drop (suc i) ns)) (not (list_any (λ n. n == get_or ns i 0) (drop (suc i) ns))) (are_distinct (drop (suc i) ns)))

pub new_none : (seen : ℕ → Bool) (ns : List ℕ) (i : ℕ) → length ns ≤ i → are_new seen (drop i ns) ≡ true
unfolding are_distinct
new_none seen ns i past = rw (drop_all i ns past) refl

pub compared : (a b : ℕ) → is_eq (nat_cmp a b) ≡ (b == a)
compared a b = grind (arith, nat_tests)

pub turned : (a b : ℕ) → (a == b) ≡ (b == a)
turned a b = grind (arith, nat_tests)

pub seen_before : (added held : Bool) → added ≡ not held → added ≡ false → held ≡ true
seen_before added true a e = refl
seen_before added false a e = absurd cc

pub not_seen : (added held : Bool) → added ≡ not held → added ≡ true → held ≡ false
not_seen added true a e = absurd cc
not_seen added false a e = refl

-- ---- numbers apart from the bits that were taken

-- none of these has a bit of the mask, and they share none
abbrev pub are_free : ℕ → List ℕ → Bool
are_free mask ns = list_all (λ n. bit_and mask n == 0) ns && share_no_bit ns

nothing_taken : (ns : List ℕ) → list_all (λ n. bit_and 0 n == 0) ns ≡ true
nothing_taken [] = refl
nothing_taken (n ∷ ns) = nothing_taken ns

pub free_first : (ns : List ℕ) → are_free 0 ns ≡ share_no_bit ns
free_first ns = rw (nothing_taken ns) refl

bits_of : (mask m n : ℕ) → bit_and (bit_or mask m) n ≡ 0 → bit_and m n ≡ 0
bits_of mask m n e = same_from_bits (bit_and m n) 0 (λ i.
    let whole : bit_at (bit_and (bit_or mask m) n) i ≡ 0 = rw e (bit_at-zero i) in
    let parts : min (max (bit_at mask i) (bit_at m i)) (bit_at n i) ≡ 0 = ap (λ b. min b (bit_at n i)) (sym (bit_at_or mask m i)) ∙ (sym (bit_at_and (bit_or mask m) n i) ∙ whole) in
    let part : min (bit_at m i) (bit_at n i) ≡ 0 = omega arith in
    bit_at_and m n i ∙ (part ∙ sym (bit_at-zero i)))

both_free : (mask m n : ℕ) → (bit_and (bit_or mask m) n == 0) ≡ ((bit_and mask n == 0) && (bit_and m n == 0))
both_free mask m n = by_part (bit_and m n == 0) refl
  where
    by_part : (b : Bool) → (bit_and m n == 0) ≡ b → (bit_and (bit_or mask m) n == 0) ≡ ((bit_and mask n == 0) && b)
    by_part true e =
        let none : bit_and m n ≡ 0 = grind (arith, nat_tests) in
        let same = and_or_apart n mask m none in
        rw same (sym (and_true (bit_and mask n == 0)))
      where
        and_true : (b : Bool) → (b && true) ≡ b
        and_true true = refl
        and_true false = refl
    by_part false e = by_whole (bit_and (bit_or mask m) n == 0) refl
      where
        and_false : (b : Bool) → (b && false) ≡ false
        and_false true = refl
        and_false false = refl

        by_whole : (b : Bool) → (bit_and (bit_or mask m) n == 0) ≡ b → b ≡ ((bit_and mask n == 0) && false)
        by_whole false f = sym (and_false (bit_and mask n == 0))
        by_whole true f =
            let whole : bit_and (bit_or mask m) n ≡ 0 = grind (arith, nat_tests) in
            let part = bits_of mask m n whole in
            absurd (grind (arith, nat_tests))

one_more_taken : (mask m : ℕ) (ns : List ℕ) → list_all (λ n. bit_and (bit_or mask m) n == 0) ns ≡ (list_all (λ n. bit_and mask n == 0) ns && list_all (λ n. bit_and m n == 0) ns)
one_more_taken mask m [] = refl
one_more_taken mask m (n ∷ ns) =
    rw (both_free mask m n, one_more_taken mask m ns) (shuffled (bit_and mask n == 0) (bit_and m n == 0) (list_all (λ n. bit_and mask n == 0) ns) (list_all (λ n. bit_and m n == 0) ns))
  where
    shuffled : (a b c d : Bool) → ((a && b) && (c && d)) ≡ ((a && c) && (b && d))
    shuffled true true c d = refl
    shuffled true false true d = refl
    shuffled true false false d = refl
    shuffled false b c d = refl

pub free_again : (mask : ℕ) (ns : List ℕ) (i n : ℕ) → i < length ns → get_or ns i 0 ≡ n → bit_and mask n ≢ 0 → are_free mask (drop i ns) ≡ false
unfolding share_no_bit
free_again mask ns i n lt is e =
    let other : (bit_and mask n == 0) ≡ false = grind (arith, nat_tests) in
    rw (drop-cons ns i 0, is, other) refl

pub free_next : (mask : ℕ) (ns : List ℕ) (i n : ℕ) → i < length ns → get_or ns i 0 ≡ n → bit_and mask n ≡ 0 → are_free (bit_or mask n) (drop (i + 1) ns) ≡ are_free mask (drop i ns)
unfolding share_no_bit
free_next mask ns i n lt is none =
    rw (drop-cons ns i 0, is, none, add-one, one_more_taken mask n (drop (suc i) ns))
    (moved (list_all (λ m. bit_and mask m == 0) (drop (suc i) ns)) (list_all (λ m. bit_and n m == 0) (drop (suc i) ns)) (share_no_bit (drop (suc i) ns)))

pub free_none : (mask : ℕ) (ns : List ℕ) (i : ℕ) → length ns ≤ i → are_free mask (drop i ns) ≡ true
unfolding share_no_bit
free_none mask ns i past = rw (drop_all i ns past) refl
