-- The queues after one more event, and after one more item was looked at.
use Rattle.std.proofs.Common.{ℕ, ◌≡◌, ◌≢◌, ◌+◌, ◌<◌, ◌≤◌, Bool, true, false, not, cond, List, [], ◌∷◌, ◌++◌, length, Option, Some, None, refl, ap, sym, ◌∙◌, subst, inl, inr, ◌⊎◌, arith, get_or, set, take, drop, replicate, get_or-set_same, get_or-set_other, Contains}
use Rattle.std.specs.Prelude.{All, count_by}
use Rattle.std.specs.Vec.{vec_capacity}
use Rattle.std.proofs.lemmas.List.{length-set, length_push, length-replicate, drop-append-le, get_or_default}
use Rattle.std.proofs.lemmas.Bool.{cases_eq, eq-eqb, ne_eqb}
use Rattle.std.proofs.lemmas.List.Elements.{All-push, All-nil, Contains-append_left, Contains-push, All-weaker}
use Rattle.std.proofs.lemmas.List.Sums.{sum_by-set, count_by-le-length}
use Rattle.replay_core.specs.declared.event.Event.{Event}
use Rattle.replay_core.specs.declared.event.Event.TheVariants.{Start, Reply, Death, Restart, Retire, Miss}
use Rattle.replay_core.specs.declared.event.Verdict.{Verdict}
use Rattle.replay_core.specs.declared.event.Verdict.TheVariants.{Done, Blamed, Missing}
use Rattle.replay_core.specs.declared.event.SlotState.TheVariants.{Idle, Holds, Dead, Retired}
use Rattle.replay_core.specs.declared.plan.Plan.{Plan}
use Rattle.replay_core.specs.declared.worklist.Worklist.{Worklist}
use Rattle.replay_core.specs.declared.queues.Queues.{Queues}
use Rattle.replay_core.specs.Plans.{items_of, deps_of}
use Rattle.replay_core.specs.Runs.{Setup, setup_of, slot_at, verdict_by, verdict_of, GoesOn, IsMet, IsWaiting, Allowed, IsRun}
use Rattle.replay_core.specs.Histories.{History, with_events, at_first}
use Rattle.replay_core.specs.Worklists.{rows_of, work_of, IsList, IsFirstList, ListGrows}
use Rattle.replay_core.specs.Queues.{HangsAt, IsUnready, ReadyFits, QueuesKept, DecidesOnly, LookedAt}
use Rattle.replay_core.proofs.Sound.{death_blames}
use Rattle.replay_core.proofs.Steps.{run_push, slot_at-push, verdict_of-push, earlier, met_stays, all_met_stays, verdict_stays}
use Rattle.replay_core.proofs.Listing.{none_passed, list_first, list_passed, list_on, list_stopped, list_next}

earlier_none : (o : Option Verdict) → earlier o None ≡ o
earlier_none None = refl
earlier_none (Some v) = refl

-- an item that the event doesn't judge keeps its verdict
pub verdict_kept : (s : Setup) (es : List Event) (e : Event) (j : ℕ) → verdict_by s es e j ≡ None → verdict_of s (es ++ e ∷ []) j ≡ verdict_of s es j
verdict_kept s es e j h = verdict_of-push s es e j ∙ (ap (earlier (verdict_of s es j)) h ∙ earlier_none (verdict_of s es j))

pub undecided_before : (s : Setup) (es : List Event) (e : Event) (i : ℕ) → verdict_of s (es ++ e ∷ []) i ≡ None → verdict_of s es i ≡ None
undecided_before s es e i h = cases (verdict_of s es i) refl
  where
    cases : (o : Option Verdict) → verdict_of s es i ≡ o → verdict_of s es i ≡ None
    cases None g = g
    cases (Some v) g = absurd (let wrong : Some v ≡ None = sym (verdict_stays s es e i v g) ∙ h in cc)

-- a slot that holds an item still holds it after an allowed event, or the event decides the item
held_on : (s : Setup) (es : List Event) (e : Event) (v i : ℕ) → IsRun s es → s.deaths ≡ 1 → Allowed s es e → slot_at es v ≡ Holds i → (slot_at (es ++ e ∷ []) v ≡ Holds i) ⊎ ((x : Verdict) × (verdict_by s es e i ≡ Some x))
held_on s es (Start w j) v i r one a h =
    elim (cases_eq w v) [
      | inl same ↦ absurd (let held : Idle ≡ Holds i = sym a.idle ∙ (ap (slot_at es) same ∙ h) in cc)
      | inr apart ↦ inl (slot_at-push es (Start w j) v ∙ (ap (λ b. cond b (Holds j) (slot_at es v)) (ne_eqb w v apart) ∙ h))
    ]
held_on s es (Reply w j c) v i r one a h =
    elim (cases_eq w v) [
      | inl same ↦ inr (Done c, (let held : Holds j ≡ Holds i = sym a.1 ∙ (ap (slot_at es) same ∙ h) in let it : j ≡ i = cc in ap (λ b. cond b (Some (Done c)) None) (eq-eqb j i it)))
      | inr apart ↦ inl (slot_at-push es (Reply w j c) v ∙ (ap (λ b. cond b Idle (slot_at es v)) (ne_eqb w v apart) ∙ h))
    ]
held_on s es (Death w) v i r one a h =
    elim (cases_eq w v) [
      | inl same ↦ inr (Blamed, (let held : slot_at es w ≡ Holds i = ap (slot_at es) same ∙ h in death_blames s es w i r one held))
      | inr apart ↦ inl (slot_at-push es (Death w) v ∙ (ap (λ b. cond b Dead (slot_at es v)) (ne_eqb w v apart) ∙ h))
    ]
held_on s es (Restart w) v i r one a h =
    elim (cases_eq w v) [
      | inl same ↦ absurd (let held : Dead ≡ Holds i = sym a.1 ∙ (ap (slot_at es) same ∙ h) in cc)
      | inr apart ↦ inl (slot_at-push es (Restart w) v ∙ (ap (λ b. cond b Idle (slot_at es v)) (ne_eqb w v apart) ∙ h))
    ]
held_on s es (Retire w) v i r one a h =
    elim (cases_eq w v) [
      | inl same ↦ absurd (elim a.1 [ inl dead ↦ (let held : Dead ≡ Holds i = sym dead ∙ (ap (slot_at es) same ∙ h) in cc) | inr idle ↦ (let held : Idle ≡ Holds i = sym idle ∙ (ap (slot_at es) same ∙ h) in cc) ])
      | inr apart ↦ inl (slot_at-push es (Retire w) v ∙ (ap (λ b. cond b Retired (slot_at es v)) (ne_eqb w v apart) ∙ h))
    ]
held_on s es (Miss j p) v i r one a h = inl (slot_at-push es (Miss j p) v ∙ h)

-- an item that waits after an allowed event waited before it
pub waited_before : (s : Setup) (es : List Event) (e : Event) (i : ℕ) → IsRun s es → s.deaths ≡ 1 → Allowed s es e → IsWaiting s (es ++ e ∷ []) i → IsWaiting s es i
waited_before s es e i r one a waiting = record {
  in_plan = waiting.in_plan;
  undecided = undecided_before s es e i waiting.undecided;
  in_no_hands = λ v h. elim (held_on s es e v i r one a h) [
    | inl on ↦ waiting.in_no_hands v on
    | inr judged ↦ (let wrong : None ≡ Some judged.0 = sym waiting.undecided ∙ (verdict_of-push s es e i ∙ (ap (λ o. earlier o (verdict_by s es e i)) (undecided_before s es e i waiting.undecided) ∙ judged.1)) in cc)
  ];
}

hangs_on : (s : Setup) (es : List Event) (e : Event) (place i : ℕ) → (h : HangsAt s es place i) → verdict_by s es e h.0 ≡ None → HangsAt s (es ++ e ∷ []) place i
hangs_on s es e place i h n = (h.0, h.1, h.2, verdict_kept s es e h.0 n ∙ h.3)

-- what is ready stays so after an allowed event
pub ready_on : (s : Setup) (es : List Event) (e : Event) (queued : List Bool) (ready : List ℕ) (taken : ℕ) → ReadyFits s es queued ready taken → IsRun s es → s.deaths ≡ 1 → Allowed s es e → ReadyFits s (es ++ e ∷ []) queued ready taken
ready_on s es e queued ready taken q r one a = record {
  queued_len = q.queued_len;
  taken_inside = q.taken_inside;
  ready_items = q.ready_items;
  queued_met = λ i l h. all_met_stays s es e (deps_of s.plan i) (q.queued_met i l h);
  queued_ready = λ i w h. q.queued_ready i (waited_before s es e i r one a w) h;
}

-- an item was found ready
ready_push : (s : Setup) (es : List Event) (queued : List Bool) (ready : List ℕ) (taken item : ℕ) → ReadyFits s es queued ready taken → item < items_of s.plan → All (IsMet s es) (deps_of s.plan item) →
    ReadyFits s es (set queued item true) (ready ++ item ∷ []) taken
ready_push s es queued ready taken item q inside met = record {
  queued_len = length-set queued item true ∙ q.queued_len;
  taken_inside = omega (arith, q.taken_inside, length_push ready item);
  ready_items = All-push (λ i. (i < items_of s.plan) × (get_or (set queued item true) i false ≡ true)) ready item
      (All-weaker (λ i. (i < items_of s.plan) × (get_or queued i false ≡ true)) (λ i. (i < items_of s.plan) × (get_or (set queued item true) i false ≡ true)) (λ i h. (h.0, still i h.1)) ready q.ready_items)
      (inside, get_or-set_same queued item true false (omega (arith, q.queued_len)));
  queued_met = λ i l h. elim (cases_eq i item) [ inl same ↦ subst (λ x. All (IsMet s es) (deps_of s.plan x)) (sym same) met | inr apart ↦ q.queued_met i l (sym (get_or-set_other queued item i true false apart) ∙ h) ];
  queued_ready = λ i w h. (
      let more : drop taken (ready ++ item ∷ []) ≡ drop taken ready ++ item ∷ [] = drop-append-le taken ready (item ∷ []) q.taken_inside in
      subst (λ xs. Contains xs i) (sym more)
      (elim (cases_eq i item) [
        | inl same ↦ subst (λ x. Contains (drop taken ready ++ item ∷ []) x) (sym same) (Contains-push (drop taken ready) item)
        | inr apart ↦ Contains-append_left (drop taken ready) (item ∷ []) i (q.queued_ready i w (sym (get_or-set_other queued item i true false apart) ∙ h))
      ]));
}
  where
    still : (i : ℕ) → get_or queued i false ≡ true → get_or (set queued item true) i false ≡ true
    still i h = elim (cases_eq i item) [ inl same ↦ subst (λ x. get_or (set queued item true) x false ≡ true) (sym same) (get_or-set_same queued item true false (omega (arith, q.queued_len))) | inr apart ↦ get_or-set_other queued item i true false apart ∙ h ]

-- an item that is not among the ready ones wasn't before another joined them
unready_before : (queued : List Bool) (item i : ℕ) → item < length queued → get_or (set queued item true) i false ≡ false → get_or queued i false ≡ false
unready_before queued item i l h = elim (cases_eq i item) [
  | inl same ↦ absurd (let on : get_or (set queued item true) item false ≡ true = get_or-set_same queued item true false l in
      let wrong : true ≡ false = sym on ∙ (ap (λ x. get_or (set queued item true) x false) (sym same) ∙ h) in cc)
  | inr apart ↦ sym (get_or-set_other queued item i true false apart) ∙ h
]

-- an item that an event decides has a verdict then
decided_by : (s : Setup) (es : List Event) (e : Event) (k : ℕ) → DecidesOnly s es e k → verdict_of s (es ++ e ∷ []) k ≡ None → ⊥
decided_by s es e k d h = some (verdict_of s es k) (sym (verdict_of-push s es e k ∙ ap (earlier (verdict_of s es k)) d.decides) ∙ h)
  where
    some : (o : Option Verdict) → earlier o (Some d.verdict) ≡ None → ⊥
    some None g = cc
    some (Some v) g = cc

-- an event that decides nothing leaves the queues as they are
pub kept_quiet : (h new : History) (q : Queues) (e : Event) → QueuesKept h q → Allowed h.setup h.events e → ((j : ℕ) → verdict_by h.setup h.events e j ≡ None) → new ≡ with_events h (e ∷ []) → QueuesKept new q
kept_quiet h new q e k a quiet is =
    let s = h.setup in
    let es = h.events in
    let after = es ++ e ∷ [] in
    subst (λ (x : History). QueuesKept x q) (sym is)
    (record {
      one_death = k.one_death;
      run = run_push s es e k.run a;
      kept = list_on s.plan (IsMet s es) (IsMet s after) (IsUnready s es q.queued.items) (IsUnready s after q.queued.items) (HangsAt s es) (HangsAt s after) q.list k.kept
          (met_stays s es e)
          (λ i w. (waited_before s es e i k.run k.one_death a w.0, w.1))
          (λ place i hangs. hangs_on s es e place i hangs (quiet hangs.0));
      unpassed = λ j u. k.unpassed j (undecided_before s es e j u);
      ready = ready_on s es e q.queued.items q.ready.items q.taken k.ready k.run k.one_death a;
      ready_room = k.ready_room;
    })

-- after an event that decides an item, once it is passed on
pub kept_decide : (h new : History) (q : Queues) (list : Worklist) (e : Event) (k : ℕ) → QueuesKept h q → Allowed h.setup h.events e → DecidesOnly h.setup h.events e k → new ≡ with_events h (e ∷ []) →
    list.passed.items ≡ set q.list.passed.items k true → list.fresh.items ≡ q.list.fresh.items ++ get_or (rows_of q.list.users) k [] → vec_capacity q.list.fresh ≤ vec_capacity list.fresh → work_of list ≡ work_of q.list →
    list ≡ record q.list { passed = list.passed; fresh = list.fresh } → QueuesKept new (record q { list = list })
kept_decide h new q list e k kept a only is passed fresh room work rest =
    let s = h.setup in
    let es = h.events in
    let after = es ++ e ∷ [] in
    subst (λ (x : History). QueuesKept x (record q { list = list })) (sym is)
    (record {
      one_death = kept.one_death;
      run = run_push s es e kept.run a;
      kept = list_passed s.plan (IsMet s es) (IsMet s after) (IsUnready s es q.queued.items) (IsUnready s after q.queued.items) (HangsAt s es) (HangsAt s after) q.list list k kept.kept
          (met_stays s es e)
          (λ i w. (waited_before s es e i kept.run kept.one_death a w.0, w.1))
          (λ i w hangs. elim (cases_eq hangs.0 k) [
            | inl same ↦ inl (subst (λ x. Contains (get_or (rows_of q.list.users) x []) i) same (kept.kept.fit.users_are.all i (get_or q.list.progress.items i 0) hangs.0 w.0.in_plan hangs.1))
            | inr apart ↦ inr (hangs_on s es e (get_or q.list.progress.items i 0) i hangs (only.no_other hangs.0 apart))
          ])
          passed fresh room work rest;
      unpassed = λ j u. subst (λ ps. get_or ps j false ≡ false) (sym passed)
          (let apart : j ≢ k = λ same. decided_by s es e k only (subst (λ x. verdict_of s after x ≡ None) same u) in
          get_or-set_other q.list.passed.items k j true false apart ∙ kept.unpassed j (undecided_before s es e j u));
      ready = ready_on s es e q.queued.items q.ready.items q.taken kept.ready kept.run kept.one_death a;
      ready_room = kept.ready_room;
    })

pub miss_decides : (s : Setup) (es : List Event) (item place : ℕ) → IsWaiting s es item → DecidesOnly s es (Miss item place) item
miss_decides s es item place w = record {
  undecided = w.undecided;
  verdict = Missing place;
  decides = ap (λ b. cond b (Some (Missing place)) None) (eq-eqb item item refl);
  no_other = λ j apart. ap (λ b. cond b (Some (Missing place)) None) (ne_eqb item j (λ e. apart (sym e)));
}

pub decided_not_waiting : (h new : History) (e : Event) (k : ℕ) → DecidesOnly h.setup h.events e k → new ≡ with_events h (e ∷ []) → IsWaiting new.setup new.events k → ⊥
decided_not_waiting h new e k only is waiting = decided_by h.setup h.events e k only (subst (λ (x : History). IsWaiting x.setup x.events k) is waiting).undecided

count_set : (queued : List Bool) (i : ℕ) → i < length queued → get_or queued i false ≡ false → count_by not (set queued i true) + 1 ≡ count_by not queued
count_set queued i l h =
    let step : count_by not (set queued i true) + cond {A = ℕ} (not (get_or queued i false)) 1 0 ≡ count_by not queued + 0 = sum_by-set (λ b. cond (not b) 1 0) queued i true false l in
    let one : cond {A = ℕ} (not (get_or queued i false)) 1 0 ≡ 1 = ap (λ b. cond {A = ℕ} (not b) 1 0) h in
    omega arith

-- an item was found ready and put into the queue
pub kept_ready : (h : History) (q r : Queues) (item : ℕ) (read : Bool) → QueuesKept h q → item < items_of h.setup.plan → All (IsMet h.setup h.events) (deps_of h.setup.plan item) → read ≡ get_or q.queued.items item read → read ≡ false →
    r.queued.items ≡ set q.queued.items item true → r.ready.items ≡ q.ready.items ++ item ∷ [] → vec_capacity q.ready ≤ vec_capacity r.ready → r ≡ record q { queued = r.queued; ready = r.ready } → QueuesKept h r
kept_ready h q r item read kept inside met got none queued ready capacity rest =
    let s = h.setup in
    let es = h.events in
    let within : item < length q.queued.items = omega (arith, kept.ready.queued_len, inside) in
    let off : get_or q.queued.items item false ≡ false = get_or_default q.queued.items item false read within ∙ (sym got ∙ none) in
    subst (QueuesKept h) (sym rest)
    (record {
      one_death = kept.one_death;
      run = kept.run;
      kept = subst (λ qs. IsList s.plan (IsMet s es) (IsUnready s es qs) (HangsAt s es) q.list) (sym queued)
          (list_on s.plan (IsMet s es) (IsMet s es) (IsUnready s es q.queued.items) (IsUnready s es (set q.queued.items item true)) (HangsAt s es) (HangsAt s es) q.list kept.kept
          (λ d m. m) (λ i w. (w.0, unready_before q.queued.items item i within w.1)) (λ place i hangs. hangs));
      unpassed = kept.unpassed;
      ready = subst (λ qs. ReadyFits s es qs r.ready.items q.taken) (sym queued) (subst (λ xs. ReadyFits s es (set q.queued.items item true) xs q.taken) (sym ready) (ready_push s es q.queued.items q.ready.items q.taken item kept.ready inside met));
      ready_room =
          let len : length r.ready.items ≡ length q.ready.items + 1 = ap length ready ∙ length_push q.ready.items item in
          let count : count_by not r.queued.items ≡ count_by not (set q.queued.items item true) = ap (count_by not) queued in
          let step = count_set q.queued.items item within off in
          let room = kept.ready_room in
          omega (arith, len, count, step, room, capacity);
    })

-- an item has come further
pub kept_pending : (h : History) (q : Queues) (list : Worklist) (item place : ℕ) → QueuesKept h q → item < items_of h.setup.plan → place ≤ length (deps_of h.setup.plan item) → All (IsMet h.setup h.events) (take place (deps_of h.setup.plan item)) → HangsAt h.setup h.events place item →
    list.progress.items ≡ set q.list.progress.items item place → list ≡ record q.list { progress = list.progress } → QueuesKept h (record q { list = list })
kept_pending h q list item place kept inside within met hangs progress rest = record {
  one_death = kept.one_death;
  run = kept.run;
  kept = list_stopped h.setup.plan (IsMet h.setup h.events) (IsUnready h.setup h.events q.queued.items) (HangsAt h.setup h.events) q.list list item place kept.kept inside within met hangs progress rest;
  unpassed = λ j u. subst (λ (x : Worklist). get_or x.passed.items j false ≡ false) (sym rest) (kept.unpassed j u);
  ready = kept.ready;
  ready_room = kept.ready_room;
}

-- the next item was looked at
pub kept_looked : (old new : History) (before q : Queues) (item : ℕ) → QueuesKept new q → LookedAt new q item → before.list.head < length before.list.fresh.items → item ≡ get_or before.list.fresh.items before.list.head item → ListGrows before.list q.list → q.list.head ≡ before.list.head →
    QueuesKept new (record q { list = record q.list { head = q.list.head + 1 } })
kept_looked old new before q item kept looked l got grows same = record {
  one_death = kept.one_death;
  run = kept.run;
  kept = list_next new.setup.plan (IsMet new.setup new.events) (IsUnready new.setup new.events q.queued.items) (HangsAt new.setup new.events) before.list q.list item kept.kept (λ w. looked w.0 w.1) l got grows same;
  unpassed = kept.unpassed;
  ready = kept.ready;
  ready_room = kept.ready_room;
}

-- the queues before any event
pub kept_at_first : (plan : Plan) (slots : ℕ) (q : Queues) → IsFirstList plan q.list → q.queued.items ≡ replicate (items_of plan) false → q.ready.items ≡ [] → q.taken ≡ 0 → items_of plan ≤ vec_capacity q.ready → QueuesKept (at_first plan slots) q
unfolding GoesOn
kept_at_first plan slots q first hq hr ht room =
    let s = setup_of plan slots in record {
      one_death = refl;
      run = tt;
      kept = list_first plan (IsMet s []) (IsUnready s [] q.queued.items) (HangsAt s []) q.list first (λ i w. w.0.in_plan);
      unpassed = λ j u. none_passed (items_of plan) j q.list.passed.items first.passed;
      ready = subst (λ n. ReadyFits s [] q.queued.items q.ready.items n) (sym ht) (subst (λ xs. ReadyFits s [] q.queued.items xs 0) (sym hr) (record {
        queued_len = ap length hq ∙ length-replicate (items_of plan) false;
        taken_inside = omega arith;
        ready_items = All-nil (λ i. (i < items_of plan) × (get_or q.queued.items i false ≡ true));
        queued_met = λ i l h. absurd (let off = none_passed (items_of plan) i q.queued.items hq in let wrong : false ≡ true = sym off ∙ h in cc);
        queued_ready = λ i w h. absurd (let off = none_passed (items_of plan) i q.queued.items hq in let wrong : false ≡ true = sym off ∙ h in cc);
      }));
      ready_room =
          let few = count_by-le-length not q.queued.items in
          let len : length q.queued.items ≡ items_of plan = ap length hq ∙ length-replicate (items_of plan) false in
          let none : length q.ready.items ≡ 0 = ap length hr in
          omega (arith, few, len, none, room);
    }
