-- Every plan has fates: they are found rank by rank.
use Rattle.std.proofs.Common.{ℕ, zero, suc, ◌≡◌, Bool, true, false, cond, List, [], ◌∷◌, Option, Some, None, refl, ap, sym, ◌∙◌, subst, take, map}
use Rattle.std.specs.Prelude.{All, slice_get, nat_eq, ◌&&◌, IsSomeAnd}
use Rattle.std.specs.List.{range_with_len}
use Rattle.std.proofs.lemmas.Bool.{and_parts, and_from, eqb-true}
use Rattle.std.proofs.lemmas.List.Elements.{All-nil, All-cons, All-head, All-tail}
use Rattle.std.proofs.lemmas.List.Sums.{AllPass-from_list_all}
use Rattle.replay_core.specs.declared.plan.Plan.{Plan}
use Rattle.replay_core.specs.declared.plan.Dep.{Dep}
use Rattle.replay_core.specs.declared.plan.Dep.TheVariants.{Item, Absent}
use Rattle.replay_core.specs.declared.event.Verdict.{Verdict}
use Rattle.replay_core.specs.declared.event.Verdict.TheVariants.{Done, Blamed, Missing}
use Rattle.replay_core.specs.Plans.{items_of, deps_of, is_item_of, is_founded_within}
use Rattle.replay_core.specs.Fates.{Outcome, Code, Dies, Succeeds, HasFate}
use Rattle.replay_core.specs.Laws.{FatesExist}
use Rattle.replay_core.proofs.Ends.{founded_parts, not_founded_zero}
use Rattle.replay_core.proofs.Ranks.{founded_by_items}

is_success : Verdict → Bool
is_success (Done c) = nat_eq c 0
is_success Blamed = false
is_success (Missing p) = false

success_is : (v : Verdict) → is_success v ≡ true → v ≡ Done 0
unfolding is_success
success_is (Done c) h = ap (λ k. Done k) (eqb-true c 0 h)
success_is Blamed h = absurd (let wrong : false ≡ true = h in cc)
success_is (Missing p) h = absurd (let wrong : false ≡ true = h in cc)

is_success_at : (v : Verdict) → v ≡ Done 0 → is_success v ≡ true
unfolding is_success
is_success_at v h = ap is_success h

later : Option ℕ → Option ℕ
later None = None
later (Some p) = Some (suc p)

-- the place of the first that fails
first_failing : (Dep → Bool) → List Dep → Option ℕ
first_failing test [] = None
first_failing test (x ∷ xs) = cond (test x) (later (first_failing test xs)) (Some 0)

-- all pass, or those before a place do, and the one there fails
FailsAt : (Dep → Bool) → List Dep → Option ℕ → Type 0
FailsAt test xs None = All (λ x. test x ≡ true) xs
FailsAt test xs (Some p) = All (λ x. test x ≡ true) (take p xs) × IsSomeAnd (slice_get xs p) (λ x. test x ≡ false)

fails_later : (test : Dep → Bool) (x : Dep) (xs : List Dep) (o : Option ℕ) → test x ≡ true → FailsAt test xs o → FailsAt test (x ∷ xs) (later o)
unfolding later FailsAt
fails_later test x xs None h f = All-cons (λ x. test x ≡ true) x xs h f
fails_later test x xs (Some p) h f = (All-cons (λ x. test x ≡ true) x (take p xs) h f.0, f.1)

fails_first : (test : Dep → Bool) (xs : List Dep) → FailsAt test xs (first_failing test xs)
unfolding first_failing FailsAt
fails_first test [] = All-nil (λ x. test x ≡ true)
fails_first test (x ∷ xs) = cases (fails_first test xs) (test x) refl
  where
    cases : FailsAt test xs (first_failing test xs) → (b : Bool) → test x ≡ b → FailsAt test (x ∷ xs) (cond b (later (first_failing test xs)) (Some 0))
    cases rest true h = fails_later test x xs (first_failing test xs) h rest
    cases rest false h = (All-nil (λ x. test x ≡ true), h)

same_first : (f g : Dep → Bool) (xs : List Dep) → All (λ x. f x ≡ g x) xs → first_failing f xs ≡ first_failing g xs
unfolding first_failing
same_first f g [] h = refl
same_first f g (x ∷ xs) h =
    ap (λ b. cond b (later (first_failing f xs)) (Some 0)) (All-head (λ x. f x ≡ g x) x xs h)
    ∙ ap (λ o. cond (g x) (later o) (Some 0)) (same_first f g xs (All-tail (λ x. f x ≡ g x) x xs h))

-- the dependency is a founded item that succeeds by these fates
passes : Plan → (ℕ → Verdict) → Dep → Bool
passes plan fates d = is_item_of (λ j. is_founded_within plan (suc (items_of plan)) j && is_success (fates j)) d

given_by : Outcome → Verdict
given_by (Code c) = Done c
given_by Dies = Blamed

fate_from : Outcome → Option ℕ → Verdict
fate_from outcome None = given_by outcome
fate_from outcome (Some p) = Missing p

-- the fates of the items of a rank below n
fates_within : Plan → (ℕ → Outcome) → ℕ → ℕ → Verdict
fates_within plan outcomes zero i = Blamed
fates_within plan outcomes (suc n) i = fate_from (outcomes i) (first_failing (passes plan (fates_within plan outcomes n)) (deps_of plan i))

-- the fate of an item of rank n doesn't change with higher ranks
steady : (plan : Plan) (outcomes : ℕ → Outcome) (n i : ℕ) → is_founded_within plan n i ≡ true → fates_within plan outcomes (suc n) i ≡ fates_within plan outcomes n i
unfolding fates_within passes
steady plan outcomes zero i h = absurd (not_founded_zero plan i h)
steady plan outcomes (suc n) i h =
    ap (fate_from (outcomes i))
    (same_first (passes plan (fates_within plan outcomes (suc n))) (passes plan (fates_within plan outcomes n)) (deps_of plan i)
    (λ k d l. one _ (AllPass-from_list_all (is_item_of (is_founded_within plan n)) (deps_of plan i) (founded_parts plan n i h).1 k d l) (steady plan outcomes n)))
  where
    one : (d : Dep) → is_item_of (is_founded_within plan n) d ≡ true → ((j : ℕ) → is_founded_within plan n j ≡ true → fates_within plan outcomes (suc n) j ≡ fates_within plan outcomes n j) → passes plan (fates_within plan outcomes (suc n)) d ≡ passes plan (fates_within plan outcomes n) d
    one (Item j) f same = ap (λ v. is_founded_within plan (suc (items_of plan)) j && is_success v) (same j f)
    one (Absent key) f same = refl

module _ (plan : Plan) (outcomes : ℕ → Outcome) where
  abbrev top : ℕ
  top = suc (items_of plan)

  abbrev fates : ℕ → Verdict
  fates i = fates_within plan outcomes (suc top) i

  abbrev lower : Dep → Bool
  lower d = passes plan (fates_within plan outcomes top) d

  succeeds : (d : Dep) → lower d ≡ true → Succeeds plan fates d
  unfolding passes
  succeeds (Item j) h =
      let parts = and_parts (is_founded_within plan top j) (is_success (fates_within plan outcomes top j)) h in
      ((top, parts.0), steady plan outcomes top j parts.0 ∙ success_is (fates_within plan outcomes top j) parts.1)
  succeeds (Absent key) h = absurd (let wrong : false ≡ true = h in cc)

  passes_where : (d : Dep) → Succeeds plan fates d → lower d ≡ true
  unfolding passes
  passes_where (Item j) s =
      let within = founded_by_items plan j s.0 in
      and_from (is_founded_within plan top j) (is_success (fates_within plan outcomes top j)) within (is_success_at (fates_within plan outcomes top j) (sym (steady plan outcomes top j within) ∙ s.1))
  passes_where (Absent key) s = absurd s

  fails : (o : Option Dep) → IsSomeAnd o (λ d. lower d ≡ false) → IsSomeAnd o (λ d. Succeeds plan fates d → ⊥)
  fails None h = h
  fails (Some d) h = λ s. (let wrong : true ≡ false = sym (passes_where d s) ∙ h in cc)

  fate_found : (i : ℕ) (outcome : Outcome) (o : Option ℕ) → outcomes i ≡ outcome → FailsAt lower (deps_of plan i) o → HasFate plan outcomes fates i (fate_from outcome o)
  unfolding fate_from given_by FailsAt
  fate_found i (Code c) None e f = (λ k d l. succeeds _ (f k d l), e)
  fate_found i Dies None e f = (λ k d l. succeeds _ (f k d l), e)
  fate_found i outcome (Some p) e f = (λ k d l. succeeds _ (f.0 k d l), fails (slice_get (deps_of plan i) p) f.1)

  found : (i : ℕ) → fate_from (outcomes i) (first_failing lower (deps_of plan i)) ≡ fates i
  unfolding fates_within
  found i = refl

  are_fates : (i : ℕ) → HasFate plan outcomes fates i (fates i)
  are_fates i = subst (HasFate plan outcomes fates i) (found i) (fate_found i (outcomes i) (first_failing lower (deps_of plan i)) refl (fails_first lower (deps_of plan i)))

pub fates_exist : FatesExist
fates_exist plan outcomes = (
  map (λ i. Some (fates_within plan outcomes (suc (suc (items_of plan))) i)) (range_with_len 0 (items_of plan)),
  (λ i. fates_within plan outcomes (suc (suc (items_of plan))) i, λ i l. are_fates plan outcomes i, refl),
)
