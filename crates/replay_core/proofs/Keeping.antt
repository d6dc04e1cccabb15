-- One more event, noted in the states and the verdicts.
use Rattle.std.proofs.Common.{ℕ, ◌≡◌, ◌≢◌, ◌+◌, ◌*◌, ◌<◌, ◌≤◌, ◌^◌, Bool, false, cond, eqb, List, [], ◌∷◌, ◌++◌, length, Option, Some, None, refl, ap, sym, ◌∙◌, subst, inl, inr, arith, get_or, set, take, drop, replicate, get_or-set_same, get_or-set_other}
use Rattle.std.specs.Prelude.{is_none, count_by, sum_by}
use Rattle.std.proofs.lemmas.List.{length-set, length_push, append-nil, drop_all, take_all, get_or_default, length-replicate, get_or-replicate}
use Rattle.std.proofs.lemmas.List.Elements.{All-replicate}
use Rattle.std.proofs.lemmas.List.Sums.{sum_by-set, sum_by-le, count_by-le-length}
use Rattle.std.proofs.lemmas.Bool.{eq-eqb, ne_eqb, cases_eq, cases_lt}
use Rattle.replay_core.specs.declared.plan.Plan.{Plan}
use Rattle.replay_core.specs.declared.event.Event.{Event}
use Rattle.replay_core.specs.declared.event.Event.TheVariants.{Start, Reply, Death, Restart, Retire, Miss}
use Rattle.replay_core.specs.declared.event.Verdict.{Verdict}
use Rattle.replay_core.specs.declared.event.Verdict.TheVariants.{Done, Blamed, Missing}
use Rattle.replay_core.specs.declared.event.SlotState.{SlotState}
use Rattle.replay_core.specs.declared.event.SlotState.TheVariants.{Idle, Holds, Dead, Retired}
use Rattle.replay_core.specs.Plans.{items_of}
use Rattle.replay_core.specs.Runs.{Setup, names, state_after, slot_at, is_holding, verdict_by, verdict_of, Allowed, GoesOn, IsRun, setup_of}
use Rattle.replay_core.specs.Histories.{room_of, IsPlan}
use Rattle.replay_core.specs.Notes.{slot_of, blame, judged, set_at, states_with, decide, allowance, Keeps, MarksFounded, FitsTogether}
use Rattle.replay_core.proofs.Steps.{slot_at-nil, verdict_of-nil, slot_at-push, verdict_of-push, earlier, run_push}
use Rattle.replay_core.specs.declared.counts.Counts.{Counts}
use Rattle.replay_core.specs.Counting.{IsTally, AreSmall, with_event, with_decided}
use Rattle.replay_core.proofs.Sound.{Sound, run_is_sound, death_judges}
use Rattle.replay_core.proofs.Tallying.{tally_event, tally_decided, tally_small}

pub names-slot_of : (w : ℕ) (e : Event) → names w e ≡ elim (slot_of e) as (λ _. Bool) [ None ↦ false | Some v ↦ eqb v w ]
names-slot_of w (Start v i) = refl
names-slot_of w (Reply v i c) = refl
names-slot_of w (Death v) = refl
names-slot_of w (Restart v) = refl
names-slot_of w (Retire v) = refl
names-slot_of w (Miss i p) = refl

-- a slot that an allowed event names is one of the setup's
pub slot_inside : (s : Setup) (es : List Event) (e : Event) (v : ℕ) → Allowed s es e → slot_of e ≡ Some v → v < s.slots
slot_inside s es (Start w i) v a h = let same : w ≡ v = cc in subst (λ x. x < s.slots) same a.slot
slot_inside s es (Reply w i c) v a h = let same : w ≡ v = cc in subst (λ x. x < s.slots) same a.0
slot_inside s es (Death w) v a h = let same : w ≡ v = cc in subst (λ x. x < s.slots) same a.0
slot_inside s es (Restart w) v a h = let same : w ≡ v = cc in subst (λ x. x < s.slots) same a.0
slot_inside s es (Retire w) v a h = let same : w ≡ v = cc in subst (λ x. x < s.slots) same a.0
slot_inside s es (Miss i p) v a h = cc

get_set_at : {X : Type 0} (xs : List X) (o : Option ℕ) (x d : X) (w : ℕ) → w < length xs →
    get_or (set_at xs o x) w d ≡ elim o as (λ _. X) [ None ↦ get_or xs w d | Some v ↦ cond (eqb v w) x (get_or xs w d) ]
get_set_at xs None x d w l = refl
get_set_at xs (Some v) x d w l =
    elim (cases_eq v w) [
      | inl same ↦ rw (same, get_or-set_same, eq-eqb w w refl) refl
      | inr apart ↦ (let other : w ≢ v = λ e. apart (sym e) in rw (get_or-set_other xs v w x d other, ne_eqb v w apart) refl)
    ]

-- what an option of an item and its verdict says of item i
abbrev pub judged_at : Option (ℕ × Verdict) → ℕ → Option Verdict
judged_at None i = None
judged_at (Some v) i = cond (eqb v.0 i) (Some v.1) None

blamed_at : (state : SlotState) (i : ℕ) → cond (is_holding state i) (Some Blamed) None ≡ judged_at (blame state) i
blamed_at Idle i = refl
blamed_at (Holds j) i = refl
blamed_at Dead i = refl
blamed_at Retired i = refl

verdict_by-judged : (s : Setup) (es : List Event) (states : List SlotState) (e : Event) (i : ℕ) → IsRun s es → s.deaths ≡ 1 → ((w : ℕ) → w < s.slots → get_or states w Idle ≡ slot_at es w) → Allowed s es e →
    verdict_by s es e i ≡ judged_at (judged states e) i
verdict_by-judged s es states (Start w j) i r one h a = refl
verdict_by-judged s es states (Reply w j c) i r one h a = refl
verdict_by-judged s es states (Death w) i r one h a = death_judges s es w i r one ∙ (ap (λ t. cond (is_holding t i) (Some Blamed) None) (sym (h w a.0)) ∙ blamed_at (get_or states w Idle) i)
verdict_by-judged s es states (Restart w) i r one h a = refl
verdict_by-judged s es states (Retire w) i r one h a = refl
verdict_by-judged s es states (Miss j p) i r one h a = refl

-- the item that an allowed event decides is one of the plan's, and was undecided
judged_waiting : (s : Setup) (es : List Event) (states : List SlotState) (e : Event) (v : ℕ × Verdict) → Sound s es → ((w : ℕ) → w < s.slots → get_or states w Idle ≡ slot_at es w) → Allowed s es e →
    judged states e ≡ Some v → (v.0 < items_of s.plan) × (verdict_of s es v.0 ≡ None)
judged_waiting s es states (Start w j) v k h a g = cc
judged_waiting s es states (Reply w j c) v k h a g = let same : j ≡ v.0 = cc in subst (λ x. (x < items_of s.plan) × (verdict_of s es x ≡ None)) same (k.held_in_plan w j a.1, k.held_undecided w j a.1)
judged_waiting s es states (Death w) v k h a g =
    let held : blame (get_or states w Idle) ≡ Some (a.1.0, Blamed) = ap blame (h w a.0 ∙ a.1.1) in
    let same : a.1.0 ≡ v.0 = cc in
    subst (λ x. (x < items_of s.plan) × (verdict_of s es x ≡ None)) same (k.held_in_plan w a.1.0 a.1.1, k.held_undecided w a.1.0 a.1.1)
judged_waiting s es states (Restart w) v k h a g = cc
judged_waiting s es states (Retire w) v k h a g = cc
judged_waiting s es states (Miss j p) v k h a g = let same : j ≡ v.0 = cc in subst (λ x. (x < items_of s.plan) × (verdict_of s es x ≡ None)) same (a.waiting.in_plan, a.waiting.undecided)

get_decide : (xs : List (Option Verdict)) (o : Option (ℕ × Verdict)) (i : ℕ) → i < length xs →
    get_or (decide xs o) i None ≡ elim o as (λ _. Option Verdict) [ None ↦ get_or xs i None | Some v ↦ cond (eqb v.0 i) (Some v.1) (get_or xs i None) ]
get_decide xs None i l = refl
get_decide xs (Some v) i l = get_set_at xs (Some v.0) (Some v.1) None i l

earlier_none : (o : Option Verdict) → earlier o None ≡ o
earlier_none None = refl
earlier_none (Some v) = refl

decided_is : (o : Option (ℕ × Verdict)) (i : ℕ) (before : Option Verdict) → ((v : ℕ × Verdict) → o ≡ Some v → v.0 ≡ i → before ≡ None) →
    elim o as (λ _. Option Verdict) [ None ↦ before | Some v ↦ cond (eqb v.0 i) (Some v.1) before ] ≡ earlier before (judged_at o i)
decided_is None i before h = sym (earlier_none before)
decided_is (Some v) i before h =
    elim (cases_eq v.0 i) [
      | inl same ↦ rw (eq-eqb v.0 i same) (sym (ap (λ b. earlier b (Some v.1)) (h v refl same)))
      | inr apart ↦ rw (ne_eqb v.0 i apart) (sym (earlier_none before))
    ]

-- the verdicts after the event
pub verdicts_push : (s : Setup) (es : List Event) (states : List SlotState) (verdicts : List (Option Verdict)) (e : Event) → Keeps s es states verdicts → Allowed s es e →
    (i : ℕ) → i < items_of s.plan → get_or (decide verdicts (judged states e)) i None ≡ verdict_of s (es ++ e ∷ []) i
verdicts_push s es states verdicts e k a i l =
    let within : i < length verdicts = omega (arith, k.items) in
    get_decide verdicts (judged states e) i within
    ∙ (ap (λ b. elim (judged states e) as (λ _. Option Verdict) [ None ↦ b | Some v ↦ cond (eqb v.0 i) (Some v.1) b ]) (k.each_verdict i l)
    ∙ (decided_is (judged states e) i (verdict_of s es i) (λ v g same. subst (λ x. verdict_of s es x ≡ None) same (judged_waiting s es states e v (run_is_sound s es k.run) k.each_state a g).1)
    ∙ (ap (λ o. earlier (verdict_of s es i) o) (sym (verdict_by-judged s es states e i k.run k.deaths k.each_state a))
    ∙ sym (verdict_of-push s es e i))))

-- the states after the event
pub states_push : (s : Setup) (es : List Event) (states : List SlotState) (verdicts : List (Option Verdict)) (e : Event) → Keeps s es states verdicts → Allowed s es e →
    (w : ℕ) → w < s.slots → get_or (states_with states e) w Idle ≡ slot_at (es ++ e ∷ []) w
states_push s es states verdicts e k a w l =
    let within : w < length states = omega (arith, k.slots) in
    get_set_at states (slot_of e) (state_after e) Idle w within
    ∙ (ap (λ t. elim (slot_of e) as (λ _. SlotState) [ None ↦ t | Some v ↦ cond (eqb v w) (state_after e) t ]) (k.each_state w l)
    ∙ (named_or_not (slot_of e) (state_after e) (slot_at es w) w
    ∙ (ap (λ b. cond b (state_after e) (slot_at es w)) (sym (names-slot_of w e)) ∙ sym (slot_at-push es e w))))
  where
    named_or_not : (o : Option ℕ) (new old : SlotState) (w : ℕ) → elim o as (λ _. SlotState) [ None ↦ old | Some v ↦ cond (eqb v w) new old ] ≡ cond (elim o as (λ _. Bool) [ None ↦ false | Some v ↦ eqb v w ]) new old
    named_or_not None new old w = refl
    named_or_not (Some v) new old w = refl

set_state : (states : List SlotState) (w : ℕ) (new old : SlotState) → w < length states → get_or states w Idle ≡ old →
    sum_by allowance (set states w new) + allowance old ≡ sum_by allowance states + allowance new
set_state states w new old l h = subst (λ t. sum_by allowance (set states w new) + allowance t ≡ sum_by allowance states + allowance new) h (sum_by-set allowance states w new Idle l)

set_verdict : (verdicts : List (Option Verdict)) (i : ℕ) (v : Verdict) → i < length verdicts → get_or verdicts i None ≡ None →
    count_by is_none (set verdicts i (Some v)) + 1 ≡ count_by is_none verdicts
set_verdict verdicts i v l h =
    let step : count_by is_none (set verdicts i (Some v)) + cond {A = ℕ} (is_none (get_or verdicts i None)) 1 0 ≡ count_by is_none verdicts + 0 = sum_by-set (λ (o : Option Verdict). cond (is_none o) 1 0) verdicts i (Some v) None l in
    let one : cond {A = ℕ} (is_none (get_or verdicts i None)) 1 0 ≡ 1 = ap (λ (o : Option Verdict). cond {A = ℕ} (is_none o) 1 0) h in
    omega arith

-- the verdict of an undecided item as it is kept
kept_none : (s : Setup) (es : List Event) (states : List SlotState) (verdicts : List (Option Verdict)) (i : ℕ) → Keeps s es states verdicts → i < items_of s.plan → verdict_of s es i ≡ None → (i < length verdicts) × (get_or verdicts i None ≡ None)
kept_none s es states verdicts i k l h = (omega (arith, k.items), k.each_verdict i l ∙ h)

budget_push : (s : Setup) (es : List Event) (states : List SlotState) (verdicts : List (Option Verdict)) (e : Event) → Keeps s es states verdicts → Allowed s es e →
    length (es ++ e ∷ []) + (3 * count_by is_none (decide verdicts (judged states e)) + sum_by allowance (states_with states e)) ≤ room_of s
budget_push s es states verdicts (Start w i) k a =
    let within : w < length states = omega (arith, k.slots, a.slot) in
    let st = set_state states w (Holds i) Idle within (k.each_state w a.slot ∙ a.idle) in
    omega (arith, k.budget, st, length_push es (Start w i))
budget_push s es states verdicts (Reply w i c) k a =
    let within : w < length states = omega (arith, k.slots, a.0) in
    let sound = run_is_sound s es k.run in
    let st = set_state states w Idle (Holds i) within (k.each_state w a.0 ∙ a.1) in
    let n = kept_none s es states verdicts i k (sound.held_in_plan w i a.1) (sound.held_undecided w i a.1) in
    let ve = set_verdict verdicts i (Done c) n.0 n.1 in
    omega (arith, k.budget, st, ve, length_push es (Reply w i c))
budget_push s es states verdicts (Death w) k a =
    let within : w < length states = omega (arith, k.slots, a.0) in
    let sound = run_is_sound s es k.run in
    let held : get_or states w Idle ≡ Holds a.1.0 = k.each_state w a.0 ∙ a.1.1 in
    let st = set_state states w Dead (Holds a.1.0) within held in
    let n = kept_none s es states verdicts a.1.0 k (sound.held_in_plan w a.1.0 a.1.1) (sound.held_undecided w a.1.0 a.1.1) in
    let ve : count_by is_none (decide verdicts (blame (get_or states w Idle))) + 1 ≡ count_by is_none verdicts =
    subst (λ t. count_by is_none (decide verdicts (blame t)) + 1 ≡ count_by is_none verdicts) (sym held) (set_verdict verdicts a.1.0 Blamed n.0 n.1) in
    omega (arith, k.budget, st, ve, length_push es (Death w))
budget_push s es states verdicts (Restart w) k a =
    let within : w < length states = omega (arith, k.slots, a.0) in
    let st = set_state states w Idle Dead within (k.each_state w a.0 ∙ a.1) in
    omega (arith, k.budget, st, length_push es (Restart w))
budget_push s es states verdicts (Retire w) k a =
    let within : w < length states = omega (arith, k.slots, a.0) in
    elim a.1 [
      | inl dead ↦ (let st = set_state states w Retired Dead within (k.each_state w a.0 ∙ dead) in omega (arith, k.budget, st, length_push es (Retire w)))
      | inr idle ↦ (let st = set_state states w Retired Idle within (k.each_state w a.0 ∙ idle) in omega (arith, k.budget, st, length_push es (Retire w)))
    ]
budget_push s es states verdicts (Miss i p) k a =
    let n = kept_none s es states verdicts i k a.waiting.in_plan a.waiting.undecided in
    let ve = set_verdict verdicts i (Missing p) n.0 n.1 in
    omega (arith, k.budget, ve, length_push es (Miss i p))

pub length-decide : (verdicts : List (Option Verdict)) (o : Option (ℕ × Verdict)) → length (decide verdicts o) ≡ length verdicts
length-decide verdicts None = refl
length-decide verdicts (Some v) = length-set verdicts v.0 (Some v.1)

length-set_at : {X : Type 0} (xs : List X) (o : Option ℕ) (x : X) → length (set_at xs o x) ≡ length xs
length-set_at xs None x = refl
length-set_at xs (Some k) x = length-set xs k x

-- what is kept, after one more event
pub keeps_push : (s : Setup) (es : List Event) (states : List SlotState) (verdicts : List (Option Verdict)) (e : Event) → Keeps s es states verdicts → Allowed s es e →
    Keeps s (es ++ e ∷ []) (states_with states e) (decide verdicts (judged states e))
keeps_push s es states verdicts e k a = record {
  deaths = k.deaths;
  run = run_push s es e k.run a;
  slots = length-set_at states (slot_of e) (state_after e) ∙ k.slots;
  items = length-decide verdicts (judged states e) ∙ k.items;
  each_state = states_push s es states verdicts e k a;
  each_verdict = verdicts_push s es states verdicts e k a;
  budget = budget_push s es states verdicts e k a;
}

-- an event fits where it is allowed
pub event_fits : (s : Setup) (es : List Event) (states : List SlotState) (verdicts : List (Option Verdict)) (e : Event) → Keeps s es states verdicts → Allowed s es e → length es < room_of s
event_fits s es states verdicts e k a = omega (arith, budget_push s es states verdicts e k a, length_push es e)

-- a `Vec` after its whole slice was written
pub written : {X : Type 0} (xs new : List X) (n : ℕ) → n ≡ length xs → length new ≡ length xs → take n (new ++ drop (length new) xs) ≡ new
written xs new n e l =
    ap (λ rest. take n (new ++ rest)) (drop_all (length new) xs (omega arith))
    ∙ (ap (take n) (append-nil new) ∙ take_all n new (omega arith))

pub fits_push : (plan : Plan) (marks : List Bool) (states new_states : List SlotState) (verdicts new_verdicts : List (Option Verdict)) (es new_es : List Event) (capacity new_capacity : ℕ) (e : Event) →
    FitsTogether plan marks states verdicts es capacity → Allowed (setup_of plan (length states)) es e →
    new_states ≡ states_with states e → new_verdicts ≡ decide verdicts (judged states e) → new_es ≡ es ++ e ∷ [] → capacity ≤ new_capacity →
    FitsTogether plan marks new_states new_verdicts new_es new_capacity
fits_push plan marks states new_states verdicts new_verdicts es new_es capacity new_capacity e f a hs hv he hc =
    let same : length new_states ≡ length states = ap length hs ∙ length-set_at states (slot_of e) (state_after e) in
    let setup : ℕ → Setup = λ n. setup_of plan n in
    record {
      plan_is = f.plan_is;
      some_slot = omega (arith, f.some_slot);
      few_slots = omega (arith, f.few_slots);
      founded = f.founded;
      keeps =
          subst (λ n. Keeps (setup n) new_es new_states new_verdicts) (sym same)
          (subst (λ x. Keeps (setup (length states)) x new_states new_verdicts) (sym he)
          (subst (λ x. Keeps (setup (length states)) (es ++ e ∷ []) x new_verdicts) (sym hs)
          (subst (λ x. Keeps (setup (length states)) (es ++ e ∷ []) (states_with states e) x) (sym hv)
          (keeps_push (setup (length states)) es states verdicts e f.keeps a))));
      room = omega (arith, f.room);
    }

pub judged_inside : (s : Setup) (es : List Event) (states : List SlotState) (verdicts : List (Option Verdict)) (e : Event) (v : ℕ × Verdict) → Keeps s es states verdicts → Allowed s es e → judged states e ≡ Some v → v.0 < length verdicts
judged_inside s es states verdicts e v k a h = omega (arith, k.items, (judged_waiting s es states e v (run_is_sound s es k.run) k.each_state a h).0)

pub length-states_with : (states : List SlotState) (e : Event) → length (states_with states e) ≡ length states
length-states_with states e = length-set_at states (slot_of e) (state_after e)

-- a slot that was named is one of the setup's
pub inside_unless_idle : (s : Setup) (es : List Event) (states : List SlotState) (verdicts : List (Option Verdict)) (w : ℕ) → Keeps s es states verdicts → (slot_at es w ≡ Idle → ⊥) → w < s.slots
inside_unless_idle s es states verdicts w k h = elim (cases_lt w s.slots) [ inl below ↦ below | inr above ↦ absurd (h ((run_is_sound s es k.run).outside w above)) ]

-- what is read of a slot's state is its state
pub state_read : (s : Setup) (es : List Event) (states : List SlotState) (verdicts : List (Option Verdict)) (w : ℕ) (read : SlotState) → Keeps s es states verdicts → w < s.slots → read ≡ get_or states w read → slot_at es w ≡ read
state_read s es states verdicts w read k l h = let within : w < length states = omega (arith, k.slots) in sym (k.each_state w l) ∙ (get_or_default states w Idle read within ∙ sym h)

-- at first
pub keeps_at_first : (plan : Plan) (slots : ℕ) → Keeps (setup_of plan slots) [] (replicate slots Idle) (replicate (items_of plan) None)
unfolding GoesOn
keeps_at_first plan slots = record {
  deaths = refl;
  run = tt;
  slots = length-replicate slots Idle;
  items = length-replicate (items_of plan) None;
  each_state = λ w l. get_or-replicate slots w Idle Idle l ∙ sym (slot_at-nil w);
  each_verdict = λ i l. get_or-replicate (items_of plan) i None None l ∙ sym (verdict_of-nil (setup_of plan slots) i);
  budget =
      let few = sum_by-le allowance 1 (replicate slots Idle) (All-replicate (λ state. allowance state ≤ 1) slots Idle (omega arith)) in
      let some = count_by-le-length {X = Option Verdict} is_none (replicate (items_of plan) None) in
      let l = length-replicate slots Idle in
      let m = length-replicate {A = Option Verdict} (items_of plan) None in
      omega (arith, few, some, l, m);
}

pub fits_at_first : (plan : Plan) (marks : List Bool) (states : List SlotState) (verdicts : List (Option Verdict)) (es : List Event) (capacity slots items : ℕ) →
    IsPlan plan → 0 < slots → slots ≤ 16 → MarksFounded plan marks → items ≡ items_of plan → states ≡ replicate slots Idle → verdicts ≡ replicate items None → es ≡ [] → capacity ≡ 3 * items + slots →
    FitsTogether plan marks states verdicts es capacity
fits_at_first plan marks states verdicts es capacity slots items p some few m hi hs hv he hc =
    let same : length states ≡ slots = ap length hs ∙ length-replicate slots Idle in
    let setup : ℕ → Setup = λ n. setup_of plan n in
    record {
      plan_is = p;
      some_slot = omega arith;
      few_slots = omega arith;
      founded = m;
      keeps =
          subst (λ n. Keeps (setup n) es states verdicts) (sym same)
          (subst (λ x. Keeps (setup slots) x states verdicts) (sym he)
          (subst (λ x. Keeps (setup slots) [] x verdicts) (sym hs)
          (subst (λ x. Keeps (setup slots) [] (replicate slots Idle) x) (ap (λ n. replicate n None) (sym hi) ∙ sym hv) (keeps_at_first plan slots))));
      room = omega arith;
    }

-- the counts after one more event
pub tally_push : (s : Setup) (es new_es : List Event) (states : List SlotState) (verdicts new_verdicts : List (Option Verdict)) (e : Event) (counts new_counts : Counts) → Keeps s es states verdicts → Allowed s es e → IsTally es verdicts counts →
    new_verdicts ≡ decide verdicts (judged states e) → new_es ≡ es ++ e ∷ [] → new_counts ≡ with_decided (with_event counts e) (judged states e) → IsTally new_es new_verdicts new_counts
tally_push s es new_es states verdicts new_verdicts e counts new_counts k a t hv he hc =
    subst (λ x. IsTally x new_verdicts new_counts) (sym he)
    (subst (λ x. IsTally (es ++ e ∷ []) x new_counts) (sym hv)
    (subst (IsTally (es ++ e ∷ []) (decide verdicts (judged states e))) (sym hc)
    (tally_decided (es ++ e ∷ []) verdicts (with_event counts e) (judged states e)
    (λ v g. let waits = judged_waiting s es states e v (run_is_sound s es k.run) k.each_state a g in kept_none s es states verdicts v.0 k waits.0 waits.1)
    (tally_event es verdicts counts e t))))

-- no count is at its type's end
pub counts_small : (plan : Plan) (marks : List Bool) (states : List SlotState) (verdicts : List (Option Verdict)) (es : List Event) (capacity : ℕ) (e : Event) (counts : Counts) →
    FitsTogether plan marks states verdicts es capacity → IsTally es verdicts counts → Allowed (setup_of plan (length states)) es e → AreSmall counts × AreSmall (with_event counts e)
counts_small plan marks states verdicts es capacity e counts f t a =
    let fits = event_fits (setup_of plan (length states)) es states verdicts e f.keeps a in
    let few : length es < 2 ^ 31 = omega (arith, fits, f.plan_is.items, f.few_slots) in
    let short : length verdicts < 2 ^ 32 = omega (arith, f.keeps.items, f.plan_is.items) in (
      tally_small es verdicts counts (omega arith) short t,
      tally_small (es ++ e ∷ []) verdicts (with_event counts e) (omega (arith, length_push es e)) short (tally_event es verdicts counts e t),
    )
