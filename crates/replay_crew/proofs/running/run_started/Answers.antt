use Rattle.std.proofs.Common.{◌≤◌, ◌++◌, ◌∷◌, [], ap, ◌∙◌, sym, refl, inr, false, length, replicate, subst}
use Rattle.std.proofs.lemmas.List.{append-nil, length-replicate}
use Rattle.replay_core.specs.declared.plan.Plan.{Plan}
use Rattle.replay_core.specs.Plans.{items_of, Founded}
use Rattle.replay_core.specs.declared.event.Event.TheVariants.{Start}
use Rattle.replay_core.specs.Runs.{slot_at}
use Rattle.slot_log.specs.Telling.{Working, Over}
use Rattle.replay_crew.specs.Jobs.{orders_of}
use Rattle.replay_crew.proofs.Marking.{none_closed}
use Rattle.replay_crew.proofs.Telling.{idle_at_first, holds_after_start, tell_nothing, tell_more, tell_same, tell_quit, turn_taken, turn_waited, has_turn}
use Rattle.replay_crew.proofs.running.run_started.Goals as goal

pub loop-init : goal.loop-init
loop-init g c = record {
  next = tt;
  finite = tt;
  faults = refl;
  running = c.requires.running;
  seat = c.requires.seat;
  setup = refl;
  same = refl;
  turns = c.requires.turns;
  idle = idle_at_first (g.B.SlotTurns.events c.args.seat.now) (g.B.SlotTurns.slot c.args.seat.now) c.requires.fresh;
  told = tell_nothing (orders_of c.args.jobs.now) (g.B.SlotTurns.slot c.args.seat.now) (g.B.SlotTurns.events c.args.seat.now) (g.S.Slot.log c.args.slot.now) c.args.loader.now c.requires.fresh;
  items = ap length c.requires.nothing ∙ length-replicate (items_of (orders_of c.args.jobs.now).plan) false;
  closed = none_closed (orders_of c.args.jobs.now).plan c.args.loader.now (items_of (orders_of c.args.jobs.now).plan) c.requires.nothing;
}

pub loop-preserved-in-Idle : goal.loop-preserved-in-Idle
loop-preserved-in-Idle g c =
    let was = c.loop.invariant in
    let rested = c.wait_for_more.ensures in
    let events = rested.events ∙ c.in-Idle.ensures.events in
    let slot = rested.slot ∙ c.in-Idle.ensures.slot in record {
      next = tt;
      finite = tt;
      faults = was.faults;
      running = was.running;
      seat = rested.seat;
      setup = rested.setup ∙ (c.in-Idle.ensures.setup ∙ was.setup);
      same = slot ∙ was.same;
      turns = turn_waited (g.B.SlotTurns.turns c.loop.seat) (g.B.SlotTurns.turns c.next-in-loop.new.seat) (g.B.SlotTurns.turns c.wait_for_more.new.seat) (g.B.SlotTurns.heard c.loop.seat) (g.B.SlotTurns.heard c.next-in-loop.new.seat) (g.B.SlotTurns.heard c.wait_for_more.new.seat) (g.B.SlotTurns.events c.loop.seat) (g.B.SlotTurns.events c.next-in-loop.new.seat) (g.B.SlotTurns.events c.wait_for_more.new.seat)
          was.turns c.in-Idle.ensures.turns rested.turns c.in-Idle.ensures.heard rested.more rested.most c.in-Idle.ensures.events rested.events;
      idle = ap (λ w. slot_at (g.B.SlotTurns.events c.wait_for_more.new.seat) w) slot ∙ (ap (λ es. slot_at es (g.B.SlotTurns.slot c.loop.seat)) (events ∙ append-nil (g.B.SlotTurns.events c.loop.seat)) ∙ was.idle);
      told = tell_same (orders_of c.args.jobs.now) (g.B.SlotTurns.slot c.args.seat.now) (Working c.args.loader.now) (Working c.loop.loader) (g.B.SlotTurns.events c.loop.seat) (g.B.SlotTurns.events c.wait_for_more.new.seat) (g.S.Slot.log c.args.slot.now) (g.S.Slot.log c.loop.slot) events was.told;
      items = was.items;
      closed = was.closed;
    }

pub returns-in-Finished-clause-told : goal.returns-in-Finished-clause-told
returns-in-Finished-clause-told g c =
    let was = c.loop.invariant in
    let told = tell_same (orders_of c.args.jobs.now) (g.B.SlotTurns.slot c.args.seat.now) (Working c.args.loader.now) (Working c.loop.loader) (g.B.SlotTurns.events c.loop.seat) (g.B.SlotTurns.events c.next-in-loop.new.seat) (g.S.Slot.log c.args.slot.now) (g.S.Slot.log c.loop.slot) c.in-Finished.ensures.events was.told in
    tell_quit (orders_of c.args.jobs.now) (g.B.SlotTurns.slot c.args.seat.now) (Working c.args.loader.now) c.loop.loader (g.B.SlotTurns.events c.next-in-loop.new.seat) (g.S.Slot.log c.args.slot.now) (g.S.Slot.log c.loop.slot) (g.S.Slot.log c.quit.new.slot) told c.quit.ensures.quits

pub returns-in-Finished-clause-idle : goal.returns-in-Finished-clause-idle
returns-in-Finished-clause-idle g c = λ _.
    let was = c.loop.invariant in
    ap (λ w. slot_at (g.B.SlotTurns.events c.next-in-loop.new.seat) w) (sym was.same) ∙ (ap (λ es. slot_at es (g.B.SlotTurns.slot c.loop.seat)) (c.in-Finished.ensures.events ∙ append-nil (g.B.SlotTurns.events c.loop.seat)) ∙ was.idle)

pub carry_out-requires-clause-held : goal.carry_out-requires-clause-held
carry_out-requires-clause-held g c = holds_after_start (g.B.SlotTurns.events c.loop.seat) (g.B.SlotTurns.events c.next-in-loop.new.seat) (g.B.SlotTurns.slot c.next-in-loop.new.seat) (g.B.SlotTurns.slot c.loop.seat) c.in-Work.item c.in-Work.ensures.slot c.in-Work.ensures.events

pub carry_out-requires-clause-turns : goal.carry_out-requires-clause-turns
carry_out-requires-clause-turns g c = turn_taken (g.B.SlotTurns.turns c.loop.seat) (g.B.SlotTurns.turns c.next-in-loop.new.seat) (g.B.SlotTurns.heard c.loop.seat) (g.B.SlotTurns.heard c.next-in-loop.new.seat) (g.B.SlotTurns.events c.loop.seat) (g.B.SlotTurns.events c.next-in-loop.new.seat) (Start (g.B.SlotTurns.slot c.loop.seat) c.in-Work.item) c.loop.invariant.turns c.in-Work.ensures.turns c.in-Work.ensures.heard c.in-Work.ensures.events c.in-Work.ensures.few

pub carry_out-requires-clause-founded : goal.carry_out-requires-clause-founded
carry_out-requires-clause-founded g c = subst (λ (p : Plan). Founded p c.in-Work.item) (ap (λ s. s.plan) c.loop.invariant.setup ∙ c.requires.plan) c.in-Work.ensures.founded

pub returns-then-not-carry_out-clause-told : goal.returns-then-not-carry_out-clause-told
returns-then-not-carry_out-clause-told g c =
    let was = c.loop.invariant in
    let v = g.B.SlotTurns.slot c.next-in-loop.new.seat in
    let held = c.in-Work.ensures.events ∙ ap (λ s. g.B.SlotTurns.events c.loop.seat ++ Start s c.in-Work.item ∷ []) (sym c.in-Work.ensures.slot) in
    tell_more (orders_of c.args.jobs.now) v (g.B.SlotTurns.slot c.args.seat.now) (Working c.args.loader.now) (Working c.loop.loader) Over (g.B.SlotTurns.events c.loop.seat) (Start v c.in-Work.item ∷ []) (g.B.SlotTurns.events c.next-in-loop.new.seat) (g.B.SlotTurns.events c.carry_out.new.seat)
    (g.S.Slot.log c.args.slot.now) (g.S.Slot.log c.loop.slot) (g.S.Slot.log c.carry_out.new.slot) was.told (c.in-Work.ensures.slot ∙ was.same) held c.if-not-carry_out.ensures.told

pub loop-preserved : goal.loop-preserved
loop-preserved g c =
    let was = c.loop.invariant in
    let v = g.B.SlotTurns.slot c.next-in-loop.new.seat in
    let held = c.in-Work.ensures.events ∙ ap (λ s. g.B.SlotTurns.events c.loop.seat ++ Start s c.in-Work.item ∷ []) (sym c.in-Work.ensures.slot) in
    let done = c.if-not-carry_out.ensures in record {
      next = tt;
      finite = tt;
      faults = done.faults refl ∙ was.faults;
      running = done.running;
      seat = done.seat;
      setup = done.setup ∙ (c.in-Work.ensures.setup ∙ was.setup);
      same = done.slot ∙ (c.in-Work.ensures.slot ∙ was.same);
      turns = done.turns;
      idle = ap (λ w. slot_at (g.B.SlotTurns.events c.carry_out.new.seat) w) done.slot ∙ done.idle refl;
      told = tell_more (orders_of c.args.jobs.now) v (g.B.SlotTurns.slot c.args.seat.now) (Working c.args.loader.now) (Working c.loop.loader) (Working c.carry_out.new.loader) (g.B.SlotTurns.events c.loop.seat) (Start v c.in-Work.item ∷ []) (g.B.SlotTurns.events c.next-in-loop.new.seat) (g.B.SlotTurns.events c.carry_out.new.seat)
          (g.S.Slot.log c.args.slot.now) (g.S.Slot.log c.loop.slot) (g.S.Slot.log c.carry_out.new.slot) was.told (c.in-Work.ensures.slot ∙ was.same) held done.told;
      items = done.items;
      closed = done.closed refl;
    }
