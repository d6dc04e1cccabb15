use Rattle.std.proofs.Common.{◌≡◌, true, false}
use Rattle.std.specs.Prelude.{count_by, not}
use Rattle.replay_crew.specs.Jobs.{orders_of}
use Rattle.replay_crew.proofs.Loading.{Loading}
use Rattle.replay_crew.proofs.asking.load_all.Given as goal

abbrev pub invariant-loop-load : goal.invariant-loop-load
invariant-loop-load g l = record {
  faults : g.S.Slot.start_faults l.slot ≡ g.S.Slot.start_faults l.fn.slot;
  deaths : g.S.Slot.deaths l.slot ≡ g.S.Slot.deaths l.fn.slot;
  running : g.S.Slot.running l.slot ≡ true;
  loading : Loading (orders_of l.jobs) l.initial.loader l.item (g.S.Slot.log l.initial.slot) (g.S.Slot.log l.slot) l.loader;
}

abbrev pub decreases-loop-load : goal.decreases-loop-load
decreases-loop-load g l = count_by not l.loader
