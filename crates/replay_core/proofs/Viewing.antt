-- From what contracts see of a scheduler to what it keeps.
use Rattle.std.proofs.Common.{ℕ, ◌≡◌, ◌<◌, List, length, Bool, Option, refl, sym, subst, ap, ◌∙◌, arith, get_or, true, false, None, Some, [], ◌↔◌, IsTrue, not, Contains}
use Rattle.std.specs.Prelude.{is_some}
use Rattle.replay_core.specs.declared.plan.Dep.{Dep}
use Rattle.replay_core.specs.declared.prospect.Prospect.{Prospect}
use Rattle.replay_core.proofs.Prospects.{prospect_is}
use Rattle.std.proofs.lemmas.List.{get_or_default}
use Rattle.replay_core.specs.Plans.{items_of}
use Rattle.replay_core.specs.declared.plan.Plan.{Plan}
use Rattle.replay_core.specs.declared.event.Event.{Event}
use Rattle.replay_core.specs.declared.event.Verdict.{Verdict}
use Rattle.replay_core.specs.declared.event.SlotState.{SlotState}
use Rattle.replay_core.specs.declared.event.SlotState.TheVariants.{Idle, Holds, Dead}
use Rattle.replay_core.specs.declared.counts.Counts.{Counts}
use Rattle.std.specs.Prelude.{nat_eq, ◌+◌, ◌≤◌}
use Rattle.std.proofs.lemmas.Bool.{eqb-true, eq-eqb}
use Rattle.replay_core.specs.Runs.{Setup, slot_at, verdict_list, AllDecided, IsWaiting, setup_of}
use Rattle.replay_core.specs.Histories.{History}
use Rattle.replay_core.specs.Notes.{Keeps, FitsTogether, ProspectIn, IsProspect}
use Rattle.replay_core.specs.Counting.{IsTally, IsCountOf}
use Rattle.replay_core.proofs.Keeping.{inside_unless_idle, state_read}
use Rattle.replay_core.proofs.Tallying.{verdicts_are, all_counted}

-- what contracts see
abbrev pub seen : Plan → List SlotState → List Event → History
seen plan states es = record { setup = setup_of plan (length states); events = es }

module _ (plan : Plan) (marks : List Bool) (states : List SlotState) (verdicts : List (Option Verdict)) (es : List Event) (capacity : ℕ) (h : History) (w : ℕ) (fits : FitsTogether plan marks states verdicts es capacity) (is : seen plan states es ≡ h) where
  pub inside_unless : (state : SlotState) → slot_at h.events w ≡ state → (state ≡ Idle → ⊥) → w < length states
  inside_unless state held apart = inside_unless_idle _ es states verdicts w fits.keeps (λ idle. apart (sym held ∙ (sym (ap (λ (h : History). slot_at h.events w) is) ∙ idle)))

  pub read_is : (state read : SlotState) → slot_at h.events w ≡ state → w < length states → read ≡ get_or states w read → state ≡ read
  read_is state read held within got = sym held ∙ (sym (ap (λ (h : History). slot_at h.events w) is) ∙ state_read _ es states verdicts w read fits.keeps within got)

  pub within_seen : w < length states → w < h.setup.slots
  within_seen within = subst (λ (h : History). w < h.setup.slots) is within

-- a slot that is not idle is one of the setup's
pub not_idle_holds : (i : ℕ) → Holds i ≡ Idle → ⊥
not_idle_holds i e = cc

pub not_idle_dead : Dead ≡ Idle → ⊥
not_idle_dead e = cc

found_at : (xs : List SlotState) (d : SlotState) (w i : ℕ) → w < length xs → get_or xs w d ≡ Holds i → Contains xs (Holds i)
found_at xs d w i l h = (w, l, get_or_default xs w (Holds i) d l ∙ h)

-- an undecided item waits where no state is that of a slot that holds it
pub waits_where : (s : Setup) (es : List Event) (states : List SlotState) (verdicts : List (Option Verdict)) (i : ℕ) (held : Bool) → Keeps s es states verdicts → i < items_of s.plan → get_or verdicts i None ≡ None → IsTrue held ↔ Contains states (Holds i) → IsTrue (not held) ↔ IsWaiting s es i
waits_where s es states verdicts i true k l u h =
    (λ e. cc, λ waiting. (let c = h.0 refl in absurd (waiting.in_no_hands c.0 (let inside : c.0 < s.slots = omega (arith, k.slots, c.1) in sym (k.each_state c.0 inside) ∙ (get_or_default states c.0 Idle (Holds i) c.1 ∙ c.2)))))
waits_where s es states verdicts i false k l u h = (
  λ e. record {
    in_plan = l;
    undecided = sym (k.each_verdict i l) ∙ u;
    in_no_hands = λ w g. (
        let inside : w < s.slots = inside_unless_idle s es states verdicts w k (λ idle. not_idle_holds i (sym g ∙ idle)) in
        let wrong : false ≡ true = h.1 (found_at states Idle w i (omega (arith, k.slots, inside)) (k.each_state w inside ∙ g)) in cc);
  },
  λ waiting. refl,
)

read_none : (read : Option Verdict) → is_some read ≡ false → read ≡ None
read_none None h = refl
read_none (Some v) h = cc

-- the same, from what was read
pub waits_read : (plan : Plan) (marks : List Bool) (states kept : List SlotState) (verdicts : List (Option Verdict)) (es : List Event) (capacity : ℕ) (h : History) (i : ℕ) (read : Option Verdict) (held : Bool) →
    FitsTogether plan marks states verdicts es capacity → seen plan states es ≡ h → i < items_of h.setup.plan → read ≡ get_or verdicts i read → is_some read ≡ false → kept ≡ states → IsTrue held ↔ Contains kept (Holds i) →
    IsTrue (not held) ↔ IsWaiting h.setup h.events i
waits_read plan marks states kept verdicts es capacity h i read held fits is l got none same holds =
    let inside : i < items_of plan = subst (λ (h : History). i < items_of h.setup.plan) (sym is) l in
    let within : i < length verdicts = omega (arith, fits.keeps.items, inside) in
    subst (λ (h : History). IsTrue (not held) ↔ IsWaiting h.setup h.events i) is
    (waits_where _ es states verdicts i held fits.keeps inside (get_or_default verdicts i None read within ∙ (sym got ∙ read_none read none)) (subst (λ s. IsTrue held ↔ Contains s (Holds i)) same holds))

-- what was found of an item's prospect
pub prospect_read : (plan : Plan) (marks marks_read : List Bool) (states : List SlotState) (verdicts verdicts_read : List (Option Verdict)) (es : List Event) (capacity : ℕ) (h : History) (i : ℕ) (rows : List (List Dep)) (row deps : List Dep) (answer : Prospect) →
    FitsTogether plan marks states verdicts es capacity → seen plan states es ≡ h → i < items_of h.setup.plan →
    rows ≡ plan.deps → row ≡ get_or rows i row → deps ≡ row → verdicts_read ≡ verdicts → marks_read ≡ marks → ProspectIn marks_read verdicts_read deps answer →
    IsProspect h.setup h.events i answer
prospect_read plan marks marks_read states verdicts verdicts_read es capacity h i rows row deps answer fits is l rows_are row_is deps_are verdicts_are marks_are found =
    let inside : i < items_of plan = subst (λ (h : History). i < items_of h.setup.plan) (sym is) l in
    let here : deps ≡ get_or plan.deps i [] = deps_are ∙ (row_is ∙ (ap (λ rs. get_or rs i row) rows_are ∙ get_or_default plan.deps i row [] inside)) in
    subst (λ (h : History). IsProspect h.setup h.events i answer) is
    (prospect_is plan marks states verdicts es capacity fits i inside answer
    (subst (λ ds. ProspectIn marks verdicts ds answer) here
    (subst (λ vs. ProspectIn marks vs deps answer) verdicts_are
    (subst (λ ms. ProspectIn ms verdicts_read deps answer) marks_are found))))

-- the verdicts that are kept are the list of verdicts
pub verdicts_seen : (plan : Plan) (marks : List Bool) (states : List SlotState) (verdicts : List (Option Verdict)) (es : List Event) (capacity : ℕ) (h : History) →
    FitsTogether plan marks states verdicts es capacity → seen plan states es ≡ h → verdicts ≡ verdict_list h.setup h.events
verdicts_seen plan marks states verdicts es capacity h fits is = subst (λ (h : History). verdicts ≡ verdict_list h.setup h.events) is (verdicts_are _ es verdicts fits.keeps.items fits.keeps.each_verdict)

pub tally_seen : (plan : Plan) (marks : List Bool) (states : List SlotState) (verdicts : List (Option Verdict)) (es : List Event) (capacity : ℕ) (h : History) (counts : Counts) →
    FitsTogether plan marks states verdicts es capacity → IsTally es verdicts counts → seen plan states es ≡ h → IsCountOf h.setup h.events counts
tally_seen plan marks states verdicts es capacity h counts fits tally is =
    subst (λ (h : History). IsCountOf h.setup h.events counts) is (subst (λ vs. IsTally es vs counts) (verdicts_are _ es verdicts fits.keeps.items fits.keeps.each_verdict) tally)

pub decided_seen : (plan : Plan) (marks : List Bool) (states : List SlotState) (verdicts : List (Option Verdict)) (es : List Event) (capacity : ℕ) (h : History) (c : Counts) (n : ℕ) →
    FitsTogether plan marks states verdicts es capacity → IsTally es verdicts c → seen plan states es ≡ h → n ≡ length verdicts → IsTrue (nat_eq (c.done + c.refused + c.blamed + c.missing) n) ↔ AllDecided h.setup h.events
decided_seen plan marks states verdicts es capacity h c n fits tally is len =
    let counted = all_counted (setup_of plan (length states)) es verdicts c tally fits.keeps.items fits.keeps.each_verdict in
    subst (λ (h : History). IsTrue (nat_eq (c.done + c.refused + c.blamed + c.missing) n) ↔ AllDecided h.setup h.events) is
    (λ e. counted.0 (eqb-true (c.done + c.refused + c.blamed + c.missing) n e ∙ len), λ all. eq-eqb (c.done + c.refused + c.blamed + c.missing) n (counted.1 all ∙ sym len))

-- three events for each of 1,048,576 items, and one for each of 16 slots
pub few_events : (plan : Plan) (marks : List Bool) (states : List SlotState) (verdicts : List (Option Verdict)) (es : List Event) (capacity : ℕ) (counts : Counts) →
    FitsTogether plan marks states verdicts es capacity → IsTally es verdicts counts → counts.events ≤ 3145744
few_events plan marks states verdicts es capacity counts fits tally = omega (arith, tally.events, fits.keeps.budget, fits.plan_is.items, fits.few_slots)
