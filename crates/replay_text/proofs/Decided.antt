-- A replay whose items are all decided.
use Rattle.std.proofs.Common.{◌≡◌, ◌≢◌, ℕ, zero, suc, ◌+◌, ◌<◌, ◌≤◌, ◌==◌, Bool, true, false, cond, if◌then◌else◌, List, [], ◌∷◌, map, count_by, Option, Some, None, refl, ap, ◌∙◌, subst, arith}
use Rattle.std.specs.Prelude.{is_none}
use Rattle.std.specs.List.{fold, list_all, range_with_len}
use Rattle.replay_core.specs.declared.event.Event.{Event}
use Rattle.replay_core.specs.declared.event.Verdict.{Verdict}
use Rattle.replay_core.specs.Plans.{items_of}
use Rattle.replay_core.specs.Runs.{Setup, verdict_of, verdict_list, AllDecided}
use Rattle.dep_graph.specs.declared.class.Class.{Class}
use Rattle.replay_text.specs.declared.overall.Overall.{Overall}
use Rattle.replay_text.specs.declared.overall.Overall.TheVariants.{Flawless, Flawed, Unanswered}
use Rattle.replay_text.specs.Overall.{is_well, overall, DecidedIsAnswered}

still : {V : Type 0} (o : Option V) (b : ℕ) → o ≢ None → b + cond (is_none o) 1 0 ≡ b
still None b some = absurd (some refl)
still (Some v) b some = omega arith

-- where no place of a range has none, none are counted
none_counted : {V : Type 0} (f : ℕ → Option V) (b a n : ℕ) → ((i : ℕ) → a ≤ i → i < a + n → f i ≢ None)
    → fold (λ c o. c + cond (is_none o) 1 0) b (map f (range_with_len a n)) ≡ b
none_counted f b a zero some = refl
none_counted f b a (suc n) some =
    ap (λ (c : ℕ). fold (λ d o. d + cond (is_none o) 1 0) c (map f (range_with_len (a + 1) n))) (still (f a) b (some a (omega arith) (omega arith)))
    ∙ none_counted f b (a + 1) n (λ i low high. some i (omega (arith, low)) (omega (arith, high)))

-- each item that is decided has a verdict
none_unanswered : (s : Setup) (events : List Event) → AllDecided s events → count_by is_none (verdict_list s events) ≡ 0
unfolding verdict_list
none_unanswered s events decided = none_counted (verdict_of s events) 0 0 (items_of s.plan) (λ i low high. decided i (omega (arith, high)))

flawless_or_flawed : (b : Bool) → (if b then Flawless else Flawed) ≡ Unanswered → ⊥
flawless_or_flawed true is = cc
flawless_or_flawed false is = cc

never_unanswered : (classes : List Class) (verdicts : List (Option Verdict)) → count_by is_none verdicts ≡ 0 → overall classes verdicts ≢ Unanswered
unfolding overall
never_unanswered classes verdicts none is =
    flawless_or_flawed (list_all (is_well verdicts) classes)
    (subst (λ (n : ℕ). (if n == 0 then (if list_all (is_well verdicts) classes then Flawless else Flawed) else Unanswered) ≡ Unanswered) none is)

pub decided_answered : DecidedIsAnswered
decided_answered s events classes decided = never_unanswered classes (verdict_list s events) (none_unanswered s events decided)
