-- One more item that is created.
use Rattle.std.proofs.Common.{ℕ, zero, suc, ◌≡◌, ◌<◌, Bool, true, false, List, [], length, refl, ap, sym, ◌∙◌, subst, inl, inr, get_or, set, replicate, get_or-set_same, get_or-set_other}
use Rattle.std.specs.Prelude.{All}
use Rattle.std.proofs.lemmas.Bool.{cases_eq}
use Rattle.replay_core.specs.declared.plan.Plan.{Plan}
use Rattle.replay_core.specs.declared.plan.Dep.{Dep}
use Rattle.replay_core.specs.declared.plan.Dep.TheVariants.{Item, Absent}
use Rattle.replay_core.specs.Plans.{items_of, deps_of}
use Rattle.slot_log.specs.Loads.{IsClosedDown, HasDepsCreated, IsCreatedDep, is_created, none_created}

still_created : (created : List Bool) (i k : ℕ) → is_created created k ≡ true → i < length created → is_created (set created i true) k ≡ true
still_created created i k h l =
    elim (cases_eq k i) [
      | inl same ↦ subst (λ k. get_or (set created i true) k false ≡ true) (sym same) (get_or-set_same created i true false l)
      | inr apart ↦ get_or-set_other created i k true false apart ∙ h
    ]

still_created_dep : (created : List Bool) (i : ℕ) (d : Dep) → i < length created → IsCreatedDep created d → IsCreatedDep (set created i true) d
still_created_dep created i (Item j) l h = still_created created i j h l
still_created_dep created i (Absent key) l h = h

deps_still_created : (plan : Plan) (created : List Bool) (i k : ℕ) → i < length created → HasDepsCreated plan created k → HasDepsCreated plan (set created i true) k
deps_still_created plan created i k l h = λ p d m. still_created_dep created i (get_or (deps_of plan k) p d) l (h p d m)

-- where an item's dependencies are created, so may it be
pub closed_more : (plan : Plan) (created : List Bool) (i : ℕ) → i < length created → IsClosedDown plan created → HasDepsCreated plan created i → IsClosedDown plan (set created i true)
closed_more plan created i l closed ready = λ k h.
    deps_still_created plan created i k l (elim (cases_eq k i) [
      | inl same ↦ subst (HasDepsCreated plan created) (sym same) ready
      | inr apart ↦ closed k (sym (get_or-set_other created i k true false apart) ∙ h)
    ])

nothing_is_created : (n i : ℕ) → is_created (replicate n false) i ≡ false
nothing_is_created zero i = refl
nothing_is_created (suc n) zero = refl
nothing_is_created (suc n) (suc i) = nothing_is_created n i

pub none_closed : (plan : Plan) (created : List Bool) (n : ℕ) → created ≡ replicate n false → IsClosedDown plan created
none_closed plan created n e = λ i h. absurd (let wrong : false ≡ true = sym (nothing_is_created n i) ∙ (ap (λ c. is_created c i) (sym e) ∙ h) in cc)
