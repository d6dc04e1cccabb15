-- The turns of a replay by one slot.
use Rattle.std.proofs.Common.{◌≡◌, ℕ, zero, suc, ◌-◌, ◌<◌, ◌≤◌, List, [], ◌∷◌, ◌++◌, length, refl, sym, ap, ◌∙◌, subst, append_assoc, append-nil, length-append, arith}
use Rattle.std.specs.Prelude.{All}
use Rattle.std.proofs.lemmas.List.Elements.{All-head, All-tail}
use Rattle.foz_words.specs.declared.key.Key.{Key}
use Rattle.foz_entry.specs.declared.cut.Entry.{Entry}
use Rattle.state_words.specs.declared.state.State.{State}
use Rattle.replay_core.specs.declared.event.Event.{Event}
use Rattle.replay_core.specs.declared.event.Event.TheVariants.{Start, Reply, Death, Restart, Retire, Miss}
use Rattle.replay_core.specs.declared.event.SlotState.TheVariants.{Idle as AtRest, Holds}
use Rattle.replay_core.specs.declared.answer.Next.TheVariants.{Finished, Work, Idle}
use Rattle.replay_core.specs.Plans.{items_of}
use Rattle.replay_core.specs.Runs.{Setup, setup_of, slot_at, IsRun, GoesOn}
use Rattle.replay_core.specs.Histories.{History, with_events, at_first, room_of}
use Rattle.replay_core.specs.Turns.{IsMiss, AddsMisses, TakesTurn}
use Rattle.replay_core.proofs.Steps.{GoesOn-append, run_push, slot_at-nil, slot_at-push}
use Rattle.replay_core.proofs.Sound.{run_is_sound}
use Rattle.replay_core.proofs.Turning.{slot_after_misses}
use Rattle.dep_graph.specs.declared.class.Class.{Class}
use Rattle.dep_graph.specs.declared.graph.Graph.{Graph}
use Rattle.check_run.specs.Checks.{Drives, none, starts, misses as missed, replies, IsAnswered, IsReplay}

module _ {M : Type 0} (creates : M → Key → State → ℕ → M → Type 0) (before : M) (entries : List Entry) where
  -- misses call no driver
  drives_misses : (classes : List Class) (events more : List Event) (now : M) → Drives creates before entries classes events now → All IsMiss more → Drives creates before entries classes (events ++ more) now
  drives_misses classes events [] now d all = subst (λ (es : List Event). Drives creates before entries classes es now) (sym (append-nil events)) d
  drives_misses classes events (e ∷ more) now d all =
      subst (λ (es : List Event). Drives creates before entries classes es now) (append_assoc events (e ∷ []) more)
      (drives_misses classes (events ++ e ∷ []) more now (one e (All-head IsMiss e more all)) (All-tail IsMiss e more all))
    where
      one : (e : Event) → IsMiss e → Drives creates before entries classes (events ++ e ∷ []) now
      one (Start slot item) h = absurd h
      one (Reply slot item code) h = absurd h
      one (Death slot) h = absurd h
      one (Restart slot) h = absurd h
      one (Retire slot) h = absurd h
      one (Miss item place) h = missed events now item place d

  -- between two items
  pub record IsGoing (graph : Graph) (core : History) (now : M) : Type 0 where
    pub setup : core.setup ≡ setup_of graph.plan 1
    pub run : IsRun core.setup core.events
    pub idle : slot_at core.events 0 ≡ AtRest
    pub driven : Drives creates before entries graph.classes core.events now

  pub going_first : (graph : Graph) (core : History) → core ≡ at_first graph.plan 1 → IsGoing graph core before
  unfolding GoesOn
  going_first graph core e = subst (λ (h : History). IsGoing graph h before) (sym e) (record { setup = refl; run = tt; idle = slot_at-nil 0; driven = none })

  after_misses : (graph : Graph) (core between : History) (now : M) → IsGoing graph core now → AddsMisses core between → IsGoing graph between now
  after_misses graph core between now g a =
      let idle = slot_after_misses core between 0 AtRest a g.idle in
      let is = a.new_is in record {
        setup = ap (λ (h : History). h.setup) is ∙ g.setup;
        run = subst (λ (h : History). IsRun h.setup h.events) (sym is) (GoesOn-append core.setup [] core.events a.misses g.run a.allowed);
        idle = idle;
        driven = subst (λ (h : History). Drives creates before entries graph.classes h.events now) (sym is) (drives_misses graph.classes core.events a.misses now g.driven a.only_misses);
      }

  pub all_checked : (graph : Graph) (core after : History) (now : M) → IsGoing graph core now → TakesTurn core 0 Finished after → IsReplay creates before entries graph after now
  all_checked graph core after now g t =
      let between = after_misses graph core t.between now g t.misses in
      subst (λ (h : History). IsReplay creates before entries graph h now) (sym t.told.1) (record { setup = between.setup; run = between.run; decided = t.told.0; driven = between.driven })

  pub never_idle : (graph : Graph) (core after : History) (now : M) → IsGoing graph core now → TakesTurn core 0 Idle after → ⊥
  never_idle graph core after now g t =
      let between = after_misses graph core t.between now g t.misses in
      let held = t.told.2 in
      by_slot between held.0 held.1.0 held.1.1
    where
      unlike : (i : ℕ) → AtRest ≡ Holds i → ⊥
      unlike i e = cc

      by_slot : IsGoing graph t.between now → (w i : ℕ) → slot_at t.between.events w ≡ Holds i → ⊥
      by_slot b zero i h = unlike i (sym b.idle ∙ h)
      by_slot b (suc w) i h =
          let slots = ap (λ (s : Setup). s.slots) b.setup in
          unlike i (sym ((run_is_sound t.between.setup t.between.events b.run).outside (suc w) (omega (arith, slots))) ∙ h)

  pub started_inside : (graph : Graph) (core after : History) (now : M) (item : ℕ) → IsGoing graph core now → TakesTurn core 0 (Work item) after → item < items_of graph.plan
  started_inside graph core after now item g t =
      let between = after_misses graph core t.between now g t.misses in
      subst (λ (s : Setup). item < items_of s.plan) between.setup t.told.0.waiting.in_plan

  pub going_on : (graph : Graph) (core mid new : History) (now after : M) (item code : ℕ) → IsGoing graph core now → TakesTurn core 0 (Work item) mid → slot_at mid.events 0 ≡ Holds item
      → IsAnswered creates now entries graph.classes item code after → new ≡ with_events mid (Reply 0 item code ∷ []) → IsGoing graph new after
  going_on graph core mid new now after item code g t holds answered is =
      let between = after_misses graph core t.between now g t.misses in
      let mid_is = t.told.1 in
      let setup : mid.setup ≡ setup_of graph.plan 1 = ap (λ (h : History). h.setup) mid_is ∙ between.setup in
      let run = subst (λ (h : History). IsRun h.setup h.events) (sym mid_is) (run_push t.between.setup t.between.events (Start 0 item) between.run t.told.0) in
      let driven = subst (λ (h : History). Drives creates before entries graph.classes h.events now) (sym mid_is) (starts t.between.events now 0 item between.driven) in
      let slots = ap (λ (s : Setup). s.slots) setup in
      subst (λ (h : History). IsGoing graph h after) (sym is) (record {
        setup = setup;
        run = run_push mid.setup mid.events (Reply 0 item code) run (omega (arith, slots), holds);
        idle = slot_at-push mid.events (Reply 0 item code) 0;
        driven = replies mid.events now after 0 item code driven answered;
      })

-- each turn with a reply uses up room
pub smaller : (core mid new : History) (item code : ℕ) → TakesTurn core 0 (Work item) mid → new ≡ with_events mid (Reply 0 item code ∷ []) → length new.events ≤ room_of new.setup → room_of new.setup - length new.events < room_of core.setup - length core.events
smaller core mid new item code t is within =
    let first = ap (λ (h : History). length h.events) t.misses.new_is ∙ length-append core.events t.misses.misses in
    let second = ap (λ (h : History). length h.events) t.told.1 ∙ length-append t.between.events (Start 0 item ∷ []) in
    let third = ap (λ (h : History). length h.events) is ∙ length-append mid.events (Reply 0 item code ∷ []) in
    let room : room_of new.setup ≡ room_of core.setup = ap (λ (h : History). room_of h.setup) is ∙ (ap (λ (h : History). room_of h.setup) t.told.1 ∙ ap (λ (h : History). room_of h.setup) t.misses.new_is) in
    omega (arith, first, second, third, room, within)
