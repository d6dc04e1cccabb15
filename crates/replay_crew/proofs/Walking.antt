-- What a founded item depends on.
use Rattle.std.proofs.Common.{ℕ, zero, suc, ◌≡◌, ◌<◌, Bool, true, false, List, [], Some, length, refl, ap, sym, ◌∙◌, subst, get_or}
use Rattle.std.specs.Prelude.{All, nat_lt}
use Rattle.std.specs.List.{list_all}
use Rattle.std.proofs.lemmas.Bool.{and_parts, ltb-true}
use Rattle.std.proofs.lemmas.List.{get_or_default}
use Rattle.std.proofs.lemmas.List.Sums.{AllPass-from_list_all}
use Rattle.std.proofs.lemmas.Option.{get_or_from_slice_get, slice_get_within}
use Rattle.replay_core.specs.declared.plan.Plan.{Plan}
use Rattle.replay_core.specs.declared.plan.Dep.{Dep}
use Rattle.replay_core.specs.declared.plan.Dep.TheVariants.{Item, Absent}
use Rattle.replay_core.specs.Plans.{items_of, deps_of, is_item_of, is_founded_within, Founded, IsFoundedItem}
use Rattle.slot_log.specs.Loads.{Needs, HasDepsCreated, IsCreatedDep, is_created}
use Rattle.replay_crew.specs.Loading.{IsItemIn}

founded_parts : (plan : Plan) (n i : ℕ) → is_founded_within plan (suc n) i ≡ true → (i < items_of plan) × (list_all (is_item_of (is_founded_within plan n)) (deps_of plan i) ≡ true)
unfolding is_founded_within
founded_parts plan n i h = let parts = and_parts (nat_lt i (items_of plan)) (list_all (is_item_of (is_founded_within plan n)) (deps_of plan i)) h in (ltb-true i (items_of plan) parts.0, parts.1)

not_founded_zero : (plan : Plan) (i : ℕ) → is_founded_within plan 0 i ≡ true → ⊥
unfolding is_founded_within
not_founded_zero plan i h = cc

pub founded_inside : (plan : Plan) (i : ℕ) → Founded plan i → i < items_of plan
founded_inside plan i (zero, h) = absurd (not_founded_zero plan i h)
founded_inside plan i (suc n, h) = (founded_parts plan n i h).0

pub founded_deps : (plan : Plan) (i : ℕ) → Founded plan i → All (IsFoundedItem plan) (deps_of plan i)
founded_deps plan i (zero, h) = absurd (not_founded_zero plan i h)
founded_deps plan i (suc n, h) = λ k d l. founded_dep (get_or (deps_of plan i) k d) (AllPass-from_list_all (is_item_of (is_founded_within plan n)) (deps_of plan i) (founded_parts plan n i h).1 k d l)
  where
    founded_dep : (d : Dep) → is_item_of (is_founded_within plan n) d ≡ true → IsFoundedItem plan d
    founded_dep (Item j) f = (n, f)
    founded_dep (Absent key) f = absurd (let wrong : false ≡ true = f in cc)

pub founded_need : (plan : Plan) (i j : ℕ) → Founded plan i → Needs plan i j → Founded plan j
founded_need plan i j f need =
    let at = get_or_from_slice_get (deps_of plan i) need.0 (Item j) (Item j) need.1 in
    subst (IsFoundedItem plan) at (founded_deps plan i f need.0 (Item j) (slice_get_within (deps_of plan i) need.0 (Item j) need.1))

-- a founded item's dependencies are items of the plan
pub deps_are_items : (plan : Plan) (n i : ℕ) → n ≡ items_of plan → Founded plan i → All (IsItemIn n) (deps_of plan i)
deps_are_items plan n i e f = λ k d l. in_plan (get_or (deps_of plan i) k d) (founded_deps plan i f k d l)
  where
    in_plan : (d : Dep) → IsFoundedItem plan d → IsItemIn n d
    in_plan (Item j) h = subst (λ m. j < m) (sym e) (founded_inside plan j h)
    in_plan (Absent key) h = absurd h

-- the row that is read for an item
pub row_is : (plan : Plan) (i : ℕ) (rows : List (List Dep)) (row deps : List Dep) → i < items_of plan → rows ≡ plan.deps → row ≡ get_or rows i row → deps ≡ row → deps ≡ deps_of plan i
row_is plan i rows row deps l e r d = d ∙ (r ∙ (ap (λ rs. get_or rs i row) e ∙ get_or_default plan.deps i row [] l))

pub needed_created : (plan : Plan) (created : List Bool) (i j : ℕ) → HasDepsCreated plan created i → Needs plan i j → is_created created j ≡ true
needed_created plan created i j all need =
    let at = get_or_from_slice_get (deps_of plan i) need.0 (Item j) (Item j) need.1 in
    subst (IsCreatedDep created) at (all need.0 (Item j) (slice_get_within (deps_of plan i) need.0 (Item j) need.1))

pub new_not_needed : (plan : Plan) (created : List Bool) (i j : ℕ) → HasDepsCreated plan created i → Needs plan i j → is_created created j ≡ false → ⊥
new_not_needed plan created i j all need h =
    let now = needed_created plan created i j all need in
    let wrong : false ≡ true = sym h ∙ now in
    cc
