-- What is kept tells what can become of an item.
use Rattle.std.proofs.Common.{ℕ, zero, suc, ◌≡◌, ◌≢◌, ◌<◌, Bool, false, List, [], ◌∷◌, length, Option, Some, None, refl, ap, sym, ◌∙◌, subst, inl, inr, arith, get_or, take}
use Rattle.std.specs.Prelude.{All, slice_get, IsSomeAnd}
use Rattle.std.proofs.lemmas.Bool.{cases_order, cases_Bool}
use Rattle.std.proofs.lemmas.List.Elements.{All-take}
use Rattle.std.proofs.lemmas.Option.{get_or_from_slice_get, slice_get_within}
use Rattle.replay_core.specs.declared.plan.Plan.{Plan}
use Rattle.replay_core.specs.declared.plan.Dep.{Dep}
use Rattle.replay_core.specs.declared.plan.Dep.TheVariants.{Item, Absent}
use Rattle.replay_core.specs.declared.prospect.Prospect.{Prospect}
use Rattle.replay_core.specs.declared.prospect.Prospect.TheVariants.{Ready, Lost, Pending}
use Rattle.replay_core.specs.declared.event.Event.{Event}
use Rattle.replay_core.specs.declared.event.Verdict.{Verdict}
use Rattle.replay_core.specs.declared.event.Verdict.TheVariants.{Done}
use Rattle.replay_core.specs.declared.event.SlotState.{SlotState}
use Rattle.replay_core.specs.Plans.{items_of, deps_of, Founded}
use Rattle.replay_core.specs.Runs.{Setup, verdict_of, IsMet, IsLost, setup_of}
use Rattle.replay_core.specs.Histories.{IsInRange}
use Rattle.replay_core.specs.Queues.{HangsAt}
use Rattle.replay_core.specs.Notes.{MetIn, LostIn, FirstUnmetIn, ProspectIn, HasMissAt, IsProspect, FitsTogether}
use Rattle.replay_core.proofs.Grounds.{met_not_lost}

none_unless : (o : Option Verdict) → ((o ≡ None → ⊥) → ⊥) → o ≡ None
none_unless None h = refl
none_unless (Some v) h = absurd (h (λ e. cc))

pub All-at : {X : Type 0} (P : X → Type 0) (xs : List X) (p : ℕ) (x : X) → slice_get xs p ≡ Some x → All P xs → P x
All-at P xs p x h all = subst P (get_or_from_slice_get xs p x x h) (all p x (slice_get_within xs p x h))

-- what holds of each element of a prefix holds of the element at a place in the prefix
pub All-at_front : {X : Type 0} (P : X → Type 0) (xs : List X) (n p : ℕ) (x : X) → p < n → slice_get xs p ≡ Some x → All P (take n xs) → P x
All-at_front P [] n p x l h all = absurd (let e : None ≡ Some x = h in cc)
All-at_front P (y ∷ xs) zero p x l h all = absurd (omega arith)
All-at_front P (y ∷ xs) (suc n) zero x l h all = subst P (let e : Some y ≡ Some x = h in cc) (all 0 y (omega arith))
All-at_front P (y ∷ xs) (suc n) (suc p) x l h all = All-at_front P xs n p x (omega arith) h (λ k d m. all (suc k) d (omega arith))

module _ (plan : Plan) (marks : List Bool) (states : List SlotState) (verdicts : List (Option Verdict)) (es : List Event) (capacity : ℕ) (fits : FitsTogether plan marks states verdicts es capacity) where
  abbrev pub setup : Setup
  setup = setup_of plan (length states)

  met_here : (d : Dep) → IsInRange (items_of plan) d → MetIn verdicts d → IsMet setup es d
  met_here (Item j) l h = sym (fits.keeps.each_verdict j l) ∙ h
  met_here (Absent key) l h = h

  met_there : (d : Dep) → IsInRange (items_of plan) d → IsMet setup es d → MetIn verdicts d
  met_there (Item j) l h = fits.keeps.each_verdict j l ∙ h
  met_there (Absent key) l h = h

  other : (o : Option Verdict) → (o ≡ Some (Done 0) → ⊥) → (o ≡ None → ⊥) → IsSomeAnd o (λ v. v ≢ Done 0)
  other None h n = n refl
  other (Some v) h n = λ e. h (ap (λ x. Some x) e)

  lost_here : (d : Dep) → IsInRange (items_of plan) d → (MetIn verdicts d → ⊥) → LostIn marks verdicts d → IsLost setup es d
  lost_here (Item j) l unmet h = elim h [ inl f ↦ inl (fits.founded.unmarked j l f) | inr n ↦ inr (other (verdict_of setup es j) (λ e. unmet (fits.keeps.each_verdict j l ∙ e)) (λ e. n (fits.keeps.each_verdict j l ∙ e))) ]
  lost_here (Absent key) l unmet h = tt

  lost_there : (d : Dep) → IsInRange (items_of plan) d → IsLost setup es d → LostIn marks verdicts d
  lost_there (Item j) l h =
      elim h [
        | inl f ↦ elim (cases_Bool (get_or marks j false)) [ inl marked ↦ absurd (f (fits.founded.marked j l marked)) | inr not_marked ↦ inl not_marked ]
        | inr y ↦ inr (λ e. (let z : IsSomeAnd {T = Verdict} None (λ v. v ≢ Done 0) = subst (λ o. IsSomeAnd o (λ v. v ≢ Done 0)) (sym (fits.keeps.each_verdict j l) ∙ e) y in z))
      ]
  lost_there (Absent key) l h = tt

  module _ (i : ℕ) (inside : i < items_of plan) where
    ds : List Dep
    ds = deps_of plan i

    deps_in_range : All (IsInRange (items_of plan)) (deps_of plan i)
    deps_in_range = fits.plan_is.in_range i [] inside

    in_range_at : (p : ℕ) (d : Dep) → slice_get (deps_of plan i) p ≡ Some d → IsInRange (items_of plan) d
    in_range_at p d h = All-at (IsInRange (items_of plan)) (deps_of plan i) p d h deps_in_range

    lost_dep : (p : ℕ) → IsSomeAnd (slice_get (deps_of plan i) p) (IsLost setup es) → (d : Dep) × (slice_get (deps_of plan i) p ≡ Some d) × IsLost setup es d
    lost_dep p h = at (slice_get (deps_of plan i) p) refl h
      where
        at : (o : Option Dep) → slice_get (deps_of plan i) p ≡ o → IsSomeAnd o (IsLost setup es) → (d : Dep) × (slice_get (deps_of plan i) p ≡ Some d) × IsLost setup es d
        at None e h = absurd h
        at (Some d) e h = (d, e, h)

    met_all : All (MetIn verdicts) (deps_of plan i) → All (IsMet setup es) (deps_of plan i)
    met_all h = λ k d l. met_here _ (deps_in_range k d l) (h k d l)

    -- a dependency that is met is not the place of a miss
    no_miss_at_met : (p : ℕ) (d : Dep) → slice_get (deps_of plan i) p ≡ Some d → IsMet setup es d → HasMissAt setup es i p → ⊥
    no_miss_at_met p d h met miss =
        let lost = lost_dep p miss.1 in
        let same : lost.0 ≡ d = (let e : Some lost.0 ≡ Some d = sym lost.1 ∙ h in cc) in
        met_not_lost setup es fits.keeps.run d met (subst (IsLost setup es) same lost.2)

    ready_is : All (MetIn verdicts) (deps_of plan i) → IsProspect setup es i Ready
    ready_is h = (met_all h, λ p miss. (let lost = lost_dep p miss.1 in no_miss_at_met p lost.0 lost.1 (All-at (IsMet setup es) (deps_of plan i) p lost.0 lost.1 (met_all h)) miss))

    module _ (place : ℕ) (dep : Dep) (first : FirstUnmetIn verdicts (deps_of plan i) place dep) where
      here_in_range : IsInRange (items_of plan) dep
      here_in_range = in_range_at place dep first.at_place

      unmet_here : IsMet setup es dep → ⊥
      unmet_here h = first.unmet (met_there dep here_in_range h)

      not_all_met : All (IsMet setup es) (deps_of plan i) → ⊥
      not_all_met h = unmet_here (All-at (IsMet setup es) (deps_of plan i) place dep first.at_place h)

      front_met : All (IsMet setup es) (take place (deps_of plan i))
      front_met = λ k d l. met_here _ (All-take (IsInRange (items_of plan)) place (deps_of plan i) deps_in_range k d l) (first.met_before k d l)

      -- a miss can only stand at the first dependency that is not met
      miss_here : (p : ℕ) → HasMissAt setup es i p → p ≡ place
      miss_here p miss =
          elim (cases_order p place) [
            | inl same ↦ same
            | inr apart ↦ elim apart [
              | inl before ↦ (let lost = lost_dep p miss.1 in absurd (no_miss_at_met p lost.0 lost.1 (All-at_front (IsMet setup es) (deps_of plan i) place p lost.0 before lost.1 front_met) miss))
              | inr after ↦ absurd (unmet_here (All-at_front (IsMet setup es) (deps_of plan i) p place dep after first.at_place miss.0))
            ]
          ]

      lost_is : LostIn marks verdicts dep → IsProspect setup es i (Lost place)
      lost_is h = ((front_met, subst (λ o. IsSomeAnd o (IsLost setup es)) (sym first.at_place) (lost_here dep here_in_range first.unmet h)), not_all_met)

      range_of : (j : ℕ) → dep ≡ Item j → j < items_of plan
      range_of j e = subst (IsInRange (items_of plan)) e here_in_range

      not_lost_founded : (LostIn marks verdicts dep → ⊥) → (j : ℕ) → dep ≡ Item j → Founded plan j
      not_lost_founded h j e = elim (cases_Bool (get_or marks j false)) [ inl marked ↦ fits.founded.marked j (range_of j e) marked | inr not ↦ absurd (h (subst (LostIn marks verdicts) (sym e) (inl not))) ]

      not_lost_none : (LostIn marks verdicts dep → ⊥) → (j : ℕ) → dep ≡ Item j → verdict_of setup es j ≡ None
      not_lost_none h j e = sym (fits.keeps.each_verdict j (range_of j e)) ∙ none_unless (get_or verdicts j None) (λ some. h (subst (LostIn marks verdicts) (sym e) (inr some)))

      hangs_here : (LostIn marks verdicts dep → ⊥) → (d : Dep) → dep ≡ d → HangsAt setup es place i
      hangs_here h (Item j) e = (j, first.at_place ∙ ap (λ x. Some x) e, not_lost_founded h j e, not_lost_none h j e)
      hangs_here h (Absent key) e = absurd (h (subst (LostIn marks verdicts) (sym e) tt))

      pending_is : (LostIn marks verdicts dep → ⊥) → IsProspect setup es i (Pending place)
      pending_is h = (
        (let l = slice_get_within (deps_of plan i) place dep first.at_place in omega arith),
        front_met,
        hangs_here h dep refl,
        not_all_met,
        λ p miss. (
            let lost = lost_dep p miss.1 in
            let same : lost.0 ≡ dep = (let e : Some lost.0 ≡ Some dep = sym lost.1 ∙ (ap (slice_get (deps_of plan i)) (miss_here p miss) ∙ first.at_place) in cc) in
            h (lost_there dep here_in_range (subst (IsLost setup es) same lost.2))),
      )

    pub prospect_is : (answer : Prospect) → ProspectIn marks verdicts (deps_of plan i) answer → IsProspect setup es i answer
    prospect_is Ready h = ready_is h
    prospect_is (Lost place) h = lost_is place h.0 h.1 h.2
    prospect_is (Pending place) h = pending_is place h.0 h.1 h.2
