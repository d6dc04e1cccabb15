use Rattle.std.proofs.Common.{◌≡◌, true, length}
use Rattle.replay_core.specs.Plans.{items_of}
use Rattle.replay_core.specs.Runs.{slot_at}
use Rattle.replay_core.specs.declared.event.SlotState.TheVariants.{Idle}
use Rattle.slot_log.specs.Loads.{IsClosedDown}
use Rattle.slot_log.specs.Telling.{Working}
use Rattle.replay_crew.specs.Jobs.{orders_of}
use Rattle.replay_crew.specs.Steps.{GrewTelling, HasTurns}
use Rattle.replay_crew.proofs.running.run_started.Given as goal

abbrev pub invariant-loop : goal.invariant-loop
invariant-loop g l = record {
  next : (goal.iterator-loop g).can_next l.iterator';
  finite : (goal.iterator-loop g).is_finite l.iterator';
  faults : g.S.Slot.start_faults l.slot ≡ g.S.Slot.start_faults l.fn.slot;
  running : g.S.Slot.running l.slot ≡ true;
  seat : g.B.SlotTurns.is_seat l.board l.seat;
  setup : g.B.SlotTurns.setup l.seat ≡ g.B.SlotTurns.setup l.fn.seat;
  same : g.B.SlotTurns.slot l.seat ≡ g.B.SlotTurns.slot l.fn.seat;
  turns : HasTurns (g.B.SlotTurns.turns l.seat) (g.B.SlotTurns.heard l.seat) (g.B.SlotTurns.events l.seat);
  idle : slot_at (g.B.SlotTurns.events l.seat) (g.B.SlotTurns.slot l.seat) ≡ Idle;
  told : GrewTelling (orders_of l.jobs) (g.B.SlotTurns.slot l.fn.seat) (Working l.initial.loader) (g.B.SlotTurns.events l.seat) (g.S.Slot.log l.fn.slot) (g.S.Slot.log l.slot) (Working l.loader);
  items : length l.loader ≡ items_of (orders_of l.jobs).plan;
  closed : IsClosedDown (orders_of l.jobs).plan l.loader;
}
