-- A founded item has a rank, which falls along its dependencies and is bounded by the number of items.
use Rattle.std.specs.Prelude.{slice_get}
use Rattle.std.proofs.Common.{ℕ, zero, suc, ◌≡◌, ◌+◌, ◌-◌, ◌<◌, ◌≤◌, Bool, true, false, cond, Some, refl, sym, ◌∙◌, subst, inl, inr, ◌⊎◌, arith}
use Rattle.std.proofs.lemmas.Bool.{cases_eq, cases_lt}
use Rattle.std.proofs.lemmas.List.Sums.{AllPass-from_list_all}
use Rattle.std.proofs.lemmas.Option.{get_or_from_slice_get, slice_get_within}
use Rattle.replay_core.specs.declared.plan.Plan.{Plan}
use Rattle.replay_core.specs.declared.plan.Dep.TheVariants.{Item}
use Rattle.replay_core.specs.Plans.{items_of, deps_of, is_item_of, is_founded_within, Founded}
use Rattle.replay_core.proofs.Ends.{founded_parts, not_founded_zero}
use Rattle.replay_core.proofs.Grounds.{founded_from, founded_up, list_all_more, item_of_more}
use Rattle.replay_core.specs.Ranks.{rank_within, rank}
use Rattle.replay_core.specs.Laws.{RanksFall}

-- how many numbers below n pass
count_below : (ℕ → Bool) → ℕ → ℕ
count_below f zero = 0
count_below f (suc n) = cond (f n) (1 + count_below f n) (count_below f n)

count_at_most : (f : ℕ → Bool) (n : ℕ) → count_below f n ≤ n
unfolding count_below
count_at_most f zero = omega arith
count_at_most f (suc n) = let h = count_at_most f n in elim (f n) as (λ b. cond b (1 + count_below f n) (count_below f n) ≤ suc n) [ true ↦ omega arith | false ↦ omega arith ]

-- f passes no more than g does
abbrev Within : (ℕ → Bool) → (ℕ → Bool) → Type 0
Within f g = (k : ℕ) → f k ≡ true → g k ≡ true

cond_more : (a b : Bool) (m n : ℕ) → (a ≡ true → b ≡ true) → m ≤ n → cond a (1 + m) m ≤ cond b (1 + n) n
cond_more true true m n h l = omega arith
cond_more true false m n h l = absurd (let wrong : false ≡ true = h refl in cc)
cond_more false true m n h l = omega arith
cond_more false false m n h l = l

count_more : (f g : ℕ → Bool) (n : ℕ) → Within f g → count_below f n ≤ count_below g n
unfolding count_below
count_more f g zero h = omega arith
count_more f g (suc n) h = cond_more (f n) (g n) (count_below f n) (count_below g n) (h n) (count_more f g n h)

cond_above : (a b : Bool) (m n : ℕ) → (a ≡ true → b ≡ true) → m < n → cond a (1 + m) m < cond b (1 + n) n
cond_above true true m n h l = omega arith
cond_above true false m n h l = absurd (let wrong : false ≡ true = h refl in cc)
cond_above false true m n h l = omega arith
cond_above false false m n h l = l

cond_apart : (a b : Bool) (m n : ℕ) → a ≡ false → b ≡ true → m ≤ n → cond a (1 + m) m < cond b (1 + n) n
cond_apart true b m n f t l = absurd (let wrong : true ≡ false = f in cc)
cond_apart false false m n f t l = absurd (let wrong : false ≡ true = t in cc)
cond_apart false true m n f t l = omega arith

count_above : (f g : ℕ → Bool) (n j : ℕ) → Within f g → j < n → f j ≡ false → g j ≡ true → count_below f n < count_below g n
unfolding count_below
count_above f g zero j h l lacks passes = absurd (omega arith)
count_above f g (suc n) j h l lacks passes =
    elim (cases_eq j n) [
      | inl same ↦ cond_apart (f n) (g n) (count_below f n) (count_below g n) (subst (λ k. f k ≡ false) same lacks) (subst (λ k. g k ≡ true) same passes) (count_more f g n h)
      | inr apart ↦ cond_above (f n) (g n) (count_below f n) (count_below g n) (h n) (count_above f g n j h (omega arith) lacks passes)
    ]

abbrev Apart : (ℕ → Bool) → (ℕ → Bool) → ℕ → Type 0
Apart f g n = (j : ℕ) × (j < n) × (f j ≡ false) × (g j ≡ true)

abbrev WithinBelow : (ℕ → Bool) → (ℕ → Bool) → ℕ → Type 0
WithinBelow g f n = (k : ℕ) → k < n → g k ≡ true → f k ≡ true

tests : (a b : Bool) → (a ≡ true → b ≡ true) ⊎ ((b ≡ false) × (a ≡ true))
tests true true = inl (λ h. refl)
tests true false = inr (refl, refl)
tests false b = inl (λ h. absurd cc)

compare : (f g : ℕ → Bool) (n : ℕ) → WithinBelow g f n ⊎ Apart f g n
compare f g zero = inl (λ k l h. absurd (omega arith))
compare f g (suc n) =
    elim (compare f g n) [
      | inr a ↦ inr (a.0, let l = a.1 in omega arith, a.2, a.3)
      | inl w ↦ elim (tests (g n) (f n)) [
        | inr a ↦ inr (n, omega arith, a.0, a.1)
        | inl here ↦ inl (λ k l h. elim (cases_eq k n) [ inl same ↦ subst (λ k. f k ≡ true) (sym same) (here (subst (λ k. g k ≡ true) same h)) | inr apart ↦ w k (omega arith) h ])
      ]
    ]

-- no item has this very rank but for those of a lower one
abbrev Stable : Plan → ℕ → Type 0
Stable plan n = Within (is_founded_within plan (suc n)) (is_founded_within plan n)

stable_next : (plan : Plan) (n : ℕ) → Stable plan n → Stable plan (suc n)
stable_next plan n s k h =
    let parts = founded_parts plan (suc n) k h in
    founded_from plan n k parts.0 (list_all_more (is_item_of (is_founded_within plan (suc n))) (is_item_of (is_founded_within plan n)) (item_of_more (is_founded_within plan (suc n)) (is_founded_within plan n) s) (deps_of plan k) parts.1)

stable_later : (plan : Plan) (n d : ℕ) → Stable plan n → Stable plan (d + n)
stable_later plan n zero s = subst (Stable plan) (let e : n ≡ 0 + n = omega arith in e) s
stable_later plan n (suc d) s = subst (Stable plan) (let e : suc (d + n) ≡ suc d + n = omega arith in e) (stable_next plan (d + n) (stable_later plan n d s))

stable_down : (plan : Plan) (n d : ℕ) → Stable plan n → Within (is_founded_within plan (d + n)) (is_founded_within plan n)
stable_down plan n zero s k h = subst (λ m. is_founded_within plan m k ≡ true) (let e : 0 + n ≡ n = omega arith in e) h
stable_down plan n (suc d) s k h = stable_down plan n d s k (stable_later plan n d s k (subst (λ m. is_founded_within plan m k ≡ true) (let e : suc d + n ≡ suc (d + n) = omega arith in e) h))

inside : (plan : Plan) (n k : ℕ) → is_founded_within plan n k ≡ true → k < items_of plan
inside plan zero k h = absurd (not_founded_zero plan k h)
inside plan (suc n) k h = (founded_parts plan n k h).0

progress : (plan : Plan) (n : ℕ) → Stable plan n ⊎ (n ≤ count_below (is_founded_within plan n) (items_of plan))
progress plan zero = inr (omega arith)
progress plan (suc n) =
    let up : Within (is_founded_within plan n) (is_founded_within plan (suc n)) = λ k h. founded_up plan n (suc n) k (omega arith) h in
    elim (progress plan n) [
      | inl s ↦ inl (stable_next plan n s)
      | inr l ↦ elim (compare (is_founded_within plan n) (is_founded_within plan (suc n)) (items_of plan)) [
        | inl w ↦ inl (stable_next plan n (λ k h. w k (inside plan (suc n) k h) h))
        | inr a ↦ inr (let more = count_above (is_founded_within plan n) (is_founded_within plan (suc n)) (items_of plan) a.0 up a.1 a.2 a.3 in omega arith)
      ]
    ]

stable_at_last : (plan : Plan) → Stable plan (suc (items_of plan))
stable_at_last plan = elim (progress plan (suc (items_of plan))) [ inl s ↦ s | inr l ↦ absurd (let most = count_at_most (is_founded_within plan (suc (items_of plan))) (items_of plan) in omega arith) ]

-- a founded item has a rank that is no more than the number of items and one
pub founded_by_items : (plan : Plan) (i : ℕ) → Founded plan i → is_founded_within plan (suc (items_of plan)) i ≡ true
founded_by_items plan i f =
    let top = suc (items_of plan) in
    elim (cases_lt f.0 top) [
      | inl below ↦ founded_up plan f.0 (suc (items_of plan)) i (omega arith) f.1
      | inr above ↦ stable_down plan (suc (items_of plan)) (f.0 - suc (items_of plan)) (stable_at_last plan) i (subst (λ m. is_founded_within plan m i ≡ true) (let e : f.0 ≡ (f.0 - suc (items_of plan)) + suc (items_of plan) = omega arith in e) f.1)
    ]

rank_fits : (plan : Plan) (b i : ℕ) → is_founded_within plan b i ≡ true → is_founded_within plan (rank_within plan b i) i ≡ true
unfolding rank_within
rank_fits plan zero i h = h
rank_fits plan (suc b) i h = cases (rank_fits plan b i) (is_founded_within plan b i) refl
  where
    cases : (is_founded_within plan b i ≡ true → is_founded_within plan (rank_within plan b i) i ≡ true) → (x : Bool) → is_founded_within plan b i ≡ x → is_founded_within plan (cond x (rank_within plan b i) (suc b)) i ≡ true
    cases before true e = before e
    cases before false e = h

rank_least : (plan : Plan) (b n i : ℕ) → n ≤ b → is_founded_within plan n i ≡ true → rank_within plan b i ≤ n
unfolding rank_within
rank_least plan zero n i l h = omega arith
rank_least plan (suc b) n i l h = cases (λ m under at. rank_least plan b m i under at) (is_founded_within plan b i) refl
  where
    cases : ((m : ℕ) → m ≤ b → is_founded_within plan m i ≡ true → rank_within plan b i ≤ m) → (x : Bool) → is_founded_within plan b i ≡ x → cond x (rank_within plan b i) (suc b) ≤ n
    cases before true e = elim (cases_lt b n) [ inl above ↦ (let least = before b (omega arith) e in omega arith) | inr below ↦ before n (omega arith) h ]
    cases before false e = elim (cases_lt b n) [ inl above ↦ omega arith | inr below ↦ absurd (let up = founded_up plan n b i (omega arith) h in let wrong : false ≡ true = sym e ∙ up in cc) ]

-- a dependency of an item of this rank has a lower one
lower : (plan : Plan) (n i p j : ℕ) → is_founded_within plan (suc n) i ≡ true → slice_get (deps_of plan i) p ≡ Some (Item j) → is_founded_within plan n j ≡ true
lower plan n i p j h at =
    let all = AllPass-from_list_all (is_item_of (is_founded_within plan n)) (deps_of plan i) (founded_parts plan n i h).1 in
    subst (λ d. is_item_of (is_founded_within plan n) d ≡ true) (get_or_from_slice_get (deps_of plan i) p (Item j) (Item j) at) (all p (Item j) (slice_get_within (deps_of plan i) p (Item j) at))

dependency_founded : (plan : Plan) (i p j : ℕ) → Founded plan i → slice_get (deps_of plan i) p ≡ Some (Item j) → Founded plan j
dependency_founded plan i p j (zero, h) at = absurd (not_founded_zero plan i h)
dependency_founded plan i p j (suc n, h) at = (n, lower plan n i p j h at)

rank_falls : (plan : Plan) (i p j : ℕ) → Founded plan i → slice_get (deps_of plan i) p ≡ Some (Item j) → rank plan j < rank plan i
unfolding rank
rank_falls plan i p j f need = falls (rank_within plan (suc (items_of plan)) i) refl
  where
    falls : (r : ℕ) → rank_within plan (suc (items_of plan)) i ≡ r → rank_within plan (suc (items_of plan)) j < r
    falls zero e = absurd (not_founded_zero plan i (subst (λ r. is_founded_within plan r i ≡ true) e (rank_fits plan (suc (items_of plan)) i (founded_by_items plan i f))))
    falls (suc r) e =
        let at : is_founded_within plan (suc r) i ≡ true = subst (λ r. is_founded_within plan r i ≡ true) e (rank_fits plan (suc (items_of plan)) i (founded_by_items plan i f)) in
        let least : rank_within plan (suc (items_of plan)) i ≤ suc (items_of plan) = rank_least plan (suc (items_of plan)) (suc (items_of plan)) i (omega arith) (founded_by_items plan i f) in
        let below = rank_least plan (suc (items_of plan)) r j (omega (arith, e, least)) (lower plan r i p j at need) in
        omega (arith, below)

pub ranks_fall : RanksFall
ranks_fall = record { bounded = founded_by_items; falls = rank_falls; closed = dependency_founded }
