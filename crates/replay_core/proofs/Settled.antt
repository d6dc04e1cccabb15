-- Where nothing is left to look at.
use Rattle.std.proofs.Common.{ℕ, ◌≡◌, ◌≢◌, ◌+◌, ◌<◌, false, cond, List, [], ◌∷◌, length, Option, Some, None, refl, ap, sym, ◌∙◌, subst, inl, inr, ◌⊎◌, arith, get_or, take}
use Rattle.std.specs.Prelude.{All, slice_get, IsSomeAnd}
use Rattle.std.proofs.lemmas.Bool.{cases_Bool, cases_order, cases_lt, eq-eqb, ne_eqb}
use Rattle.replay_core.specs.declared.plan.Dep.{Dep}
use Rattle.replay_core.specs.declared.plan.Dep.TheVariants.{Item}
use Rattle.replay_core.specs.declared.event.Event.{Event}
use Rattle.replay_core.specs.declared.event.Event.TheVariants.{Start, Reply, Miss, Death}
use Rattle.replay_core.specs.declared.event.Verdict.{Verdict}
use Rattle.replay_core.specs.declared.event.Verdict.TheVariants.{Done, Blamed}
use Rattle.replay_core.specs.declared.event.SlotState.TheVariants.{Idle, Holds, Dead}
use Rattle.replay_core.specs.declared.queues.Queues.{Queues}
use Rattle.replay_core.specs.Plans.{items_of, deps_of}
use Rattle.replay_core.specs.Runs.{Setup, slot_at, is_holding, verdict_of, IsMet, IsLost, IsWaiting, Allowed, NoStart, NoMiss, SomeHeld, AllDecided, IsRun}
use Rattle.replay_core.specs.Histories.{History, with_events}
use Rattle.replay_core.specs.Turns.{AddsMisses, SomeUndecided}
use Rattle.replay_core.specs.Queues.{HangsAt, QueuesKept, DecidesOnly}
use Rattle.replay_core.proofs.Steps.{slot_at-push}
use Rattle.replay_core.proofs.Sound.{run_is_sound, death_blames, death_judges}
use Rattle.replay_core.proofs.Ends.{stuck_is_done}
use Rattle.replay_core.proofs.Grounds.{met_not_lost}
use Rattle.replay_core.proofs.Prospects.{All-at, All-at_front}
use Rattle.replay_core.proofs.Turning.{slot_after_misses, slots_after_misses}
use Rattle.replay_core.proofs.Listing.{contains_later, none_contained}

lost_some : (s : Setup) (es : List Event) (o : Option Dep) → IsSomeAnd o (IsLost s es) → (d : Dep) × (o ≡ Some d) × IsLost s es d
lost_some s es None h = absurd h
lost_some s es (Some d) h = (d, refl, h)

-- an item that hangs is not missing
hanging_no_miss : (s : Setup) (es : List Event) (i place p : ℕ) → IsRun s es → All (IsMet s es) (take place (deps_of s.plan i)) → HangsAt s es place i → Allowed s es (Miss i p) → ⊥
hanging_no_miss s es i place p r met hangs miss =
    let lost = lost_some s es (slice_get (deps_of s.plan i) p) miss.lost in
    elim (cases_order p place) [
      | inl same ↦ (let it : lost.0 ≡ Item hangs.0 = (let e : Some lost.0 ≡ Some (Item hangs.0) = sym lost.1 ∙ (ap (slice_get (deps_of s.plan i)) same ∙ hangs.1) in cc) in
          elim (subst (IsLost s es) it lost.2) [ inl f ↦ f hangs.2 | inr y ↦ (let z : IsSomeAnd {T = Verdict} None (λ v. v ≢ Done 0) = subst (λ o. IsSomeAnd o (λ v. v ≢ Done 0)) hangs.3 y in z) ])
      | inr apart ↦ elim apart [
        | inl before ↦ met_not_lost s es r lost.0 (All-at_front (IsMet s es) (deps_of s.plan i) place p lost.0 before lost.1 met) lost.2
        | inr after ↦ (let done : verdict_of s es hangs.0 ≡ Some (Done 0) = All-at_front (IsMet s es) (deps_of s.plan i) p place (Item hangs.0) after hangs.1 miss.met in let wrong : None ≡ Some (Done 0) = sym hangs.3 ∙ done in cc)
      ]
    ]

pub settled_no_miss : (h : History) (q : Queues) → QueuesKept h q → q.list.head ≡ length q.list.fresh.items → NoMiss h.setup h.events
settled_no_miss h q k done i p miss =
    let w = miss.waiting in
    elim (cases_Bool (get_or q.queued.items i false)) [
      | inl on ↦ (let lost = lost_some h.setup h.events (slice_get (deps_of h.setup.plan i) p) miss.lost in
          met_not_lost h.setup h.events k.run lost.0 (All-at (IsMet h.setup h.events) (deps_of h.setup.plan i) p lost.0 lost.1 (k.ready.queued_met i w.in_plan on)) lost.2)
      | inr off ↦ elim (k.kept.fit.others_hang i (w, off)) [
        | inl there ↦ none_contained q.list.fresh.items q.list.head i done there
        | inr hangs ↦ hanging_no_miss h.setup h.events i _ p k.run (k.kept.fit.progress_met i w.in_plan) hangs miss
      ]
    ]

pub settled_no_start : (h : History) (q : Queues) (w : ℕ) → QueuesKept h q → q.list.head ≡ length q.list.fresh.items → q.taken ≡ length q.ready.items → NoStart h.setup h.events w
settled_no_start h q w k done taken i start =
    elim (cases_Bool (get_or q.queued.items i false)) [
      | inl on ↦ none_contained q.ready.items q.taken i taken (k.ready.queued_ready i start.waiting on)
      | inr off ↦ elim (k.kept.fit.others_hang i (start.waiting, off)) [
        | inl there ↦ none_contained q.list.fresh.items q.list.head i done there
        | inr hangs ↦ (let met : verdict_of h.setup h.events hangs.0 ≡ Some (Done 0) = All-at (IsMet h.setup h.events) (deps_of h.setup.plan i) _ (Item hangs.0) hangs.1 start.met in let wrong : None ≡ Some (Done 0) = sym hangs.3 ∙ met in cc)
      ]
    ]

-- the next ready item was tried, and doesn't wait
pub kept_taken : (h : History) (q : Queues) (item : ℕ) → QueuesKept h q → q.taken < length q.ready.items → item ≡ get_or q.ready.items q.taken item → (IsWaiting h.setup h.events item → ⊥) → QueuesKept h (record q { taken = q.taken + 1 })
kept_taken h q item k l is not_waiting = record {
  one_death = k.one_death;
  run = k.run;
  kept = k.kept;
  unpassed = k.unpassed;
  ready = record {
    queued_len = k.ready.queued_len;
    taken_inside = omega (arith, l);
    ready_items = k.ready.ready_items;
    queued_met = k.ready.queued_met;
    queued_ready = λ i w on. elim (contains_later q.ready.items q.taken item i l (k.ready.queued_ready i w on)) [
      | inl here ↦ absurd (not_waiting (subst (IsWaiting h.setup h.events) (sym (is ∙ here)) w))
      | inr later ↦ later
    ];
  };
  ready_room = k.ready_room;
}

pub held_item_inside : (s : Setup) (es : List Event) (w i : ℕ) → IsRun s es → slot_at es w ≡ Holds i → i < items_of s.plan
held_item_inside s es w i r h = (run_is_sound s es r).held_in_plan w i h

pub reply_decides_only : (s : Setup) (es : List Event) (w i c : ℕ) → IsRun s es → slot_at es w ≡ Holds i → DecidesOnly s es (Reply w i c) i
reply_decides_only s es w i c r h = record {
  undecided = (run_is_sound s es r).held_undecided w i h;
  verdict = Done c;
  decides = ap (λ b. cond b (Some (Done c)) None) (eq-eqb i i refl);
  no_other = λ j apart. ap (λ b. cond b (Some (Done c)) None) (ne_eqb i j (λ e. apart (sym e)));
}

pub death_decides_only : (s : Setup) (es : List Event) (w i : ℕ) → IsRun s es → s.deaths ≡ 1 → slot_at es w ≡ Holds i → DecidesOnly s es (Death w) i
death_decides_only s es w i r one h = record {
  undecided = (run_is_sound s es r).held_undecided w i h;
  verdict = Blamed;
  decides = death_blames s es w i r one h;
  no_other = λ j apart. death_judges s es w j r one ∙ ap (λ b. cond b (Some Blamed) None) (ap (λ t. is_holding t j) h ∙ ne_eqb i j (λ e. apart (sym e)));
}

-- where nothing can start or be missing and not all is decided, a slot holds an undecided item
pub idle_told : (h : History) (w : ℕ) → IsRun h.setup h.events → w < h.setup.slots → slot_at h.events w ≡ Idle → NoStart h.setup h.events w → NoMiss h.setup h.events → (AllDecided h.setup h.events → ⊥) → SomeHeld h.events ⊎ (SomeHeld h.events → ⊥) →
    SomeUndecided h.setup h.events × SomeHeld h.events
idle_told h w r inside idle no_start no_miss undecided hands =
    elim hands [
      | inl held ↦ (let sound = run_is_sound h.setup h.events r in ((held.1.0, sound.held_in_plan held.0 held.1.0 held.1.1, sound.held_undecided held.0 held.1.0 held.1.1), held))
      | inr none ↦ absurd (undecided (stuck_is_done h.setup h.events w inside idle no_start no_miss none))
    ]

-- misses leave the setup as it is
pub setup_on : (old now h : History) → old ≡ now → AddsMisses old h → h.setup ≡ now.setup
setup_on old now h same misses = ap (λ (x : History). x.setup) misses.new_is ∙ ap (λ (x : History). x.setup) same

-- a slot that asked for work is still idle once the misses are made
pub asks_on : (old now h : History) (w : ℕ) → old ≡ now → w < now.setup.slots → slot_at now.events w ≡ Idle → AddsMisses old h → (w < h.setup.slots) × (slot_at h.events w ≡ Idle)
asks_on old now h w same inside idle misses = (
  slots_after_misses old h w misses (subst (λ (x : History). w < x.setup.slots) (sym same) inside),
  slot_after_misses old h w Idle misses (ap (λ (x : History). slot_at x.events w) same ∙ idle),
)

pub started_not_waiting : (h new : History) (w i : ℕ) → new ≡ with_events h (Start w i ∷ []) → IsWaiting new.setup new.events i → ⊥
started_not_waiting h new w i is waiting =
    (subst (λ (x : History). IsWaiting x.setup x.events i) is waiting).in_no_hands w (slot_at-push h.events (Start w i) w ∙ ap (λ b. cond b (Holds i) (slot_at h.events w)) (eq-eqb w w refl))

pub dead_inside : (s : Setup) (es : List Event) (w : ℕ) → IsRun s es → slot_at es w ≡ Dead → w < s.slots
dead_inside s es w r h = elim (cases_lt w s.slots) [ inl below ↦ below | inr above ↦ absurd (let wrong : Idle ≡ Dead = sym ((run_is_sound s es r).outside w above) ∙ h in cc) ]

pub started_holds : (h new : History) (w i : ℕ) → new ≡ with_events h (Start w i ∷ []) → slot_at new.events w ≡ Holds i
started_holds h new w i is = ap (λ (x : History). slot_at x.events w) is ∙ (slot_at-push h.events (Start w i) w ∙ ap (λ b. cond b (Holds i) (slot_at h.events w)) (eq-eqb w w refl))
