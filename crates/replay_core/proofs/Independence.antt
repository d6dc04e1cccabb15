-- The laws on the whole list of verdicts: it depends on the answers alone.
use Rattle.std.proofs.Common.{ℕ, ◌≡◌, ◌<◌, Some, map, sym, subst, ap, ◌∙◌, arith}
use Rattle.std.specs.List.{range_with_len}
use Rattle.std.proofs.lemmas.List.{same_lists}
use Rattle.std.proofs.lemmas.List.FromFn.{length-map-range_with_len, get_or-map-range_with_len}
use Rattle.replay_core.specs.Plans.{items_of}
use Rattle.replay_core.specs.Runs.{verdict_of, verdict_list}
use Rattle.replay_core.specs.Fates.{IsFateList}
use Rattle.replay_core.specs.Laws.{VerdictsAreFates, FatesAreUnique, SameOutcomesSameVerdicts, SameRepliesSameVerdicts}
use Rattle.replay_core.proofs.Lawful.{verdicts_are_fates, fates_are_unique, same_replies_same_verdicts}

pointwise : {X : Type 0} (f g : ℕ → X) (n : ℕ) → ((i : ℕ) → i < n → f i ≡ g i) → map f (range_with_len 0 n) ≡ map g (range_with_len 0 n)
pointwise f g n h =
    same_lists (map f (range_with_len 0 n)) (map g (range_with_len 0 n)) (length-map-range_with_len f 0 n ∙ sym (length-map-range_with_len g 0 n)) (λ k d l.
    let inside : k < n = omega (arith, l, length-map-range_with_len f 0 n) in
    get_or-map-range_with_len f 0 n k k d inside (omega arith) ∙ (h k inside ∙ sym (get_or-map-range_with_len g 0 n k k d inside (omega arith))))

pub verdicts_fated : VerdictsAreFates
unfolding verdict_list
verdicts_fated s es outcomes r all agrees =
    let found = verdicts_are_fates s es outcomes r all agrees in
    (found.0, found.1, pointwise (verdict_of s es) (λ i. Some (found.0 i)) (items_of s.plan) found.2)

pub fates_unique : FatesAreUnique
fates_unique plan outcomes vs others one two =
    one.2 ∙ (pointwise (λ i. Some (one.0 i)) (λ i. Some (two.0 i)) (items_of plan) (λ i l. ap (λ v. Some v) (fates_are_unique plan outcomes one.0 two.0 one.1 two.1 i l)) ∙ sym two.2)

pub outcomes_decide : SameOutcomesSameVerdicts
outcomes_decide s t es fs outcomes same r q all every agrees agree =
    fates_unique s.plan outcomes (verdict_list s es) (verdict_list t fs) (verdicts_fated s es outcomes r all agrees)
    (subst (λ plan. IsFateList plan outcomes (verdict_list t fs)) (sym same) (verdicts_fated t fs outcomes q every agree))

pub replies_decide : SameRepliesSameVerdicts
unfolding verdict_list
replies_decide s t es fs same one two r q all every replies =
    pointwise (verdict_of s es) (verdict_of t fs) (items_of s.plan) (same_replies_same_verdicts s t es fs same one two r q all every replies)
    ∙ ap (λ plan. map (verdict_of t fs) (range_with_len 0 (items_of plan))) same
