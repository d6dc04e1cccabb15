use Rattle.std.proofs.Common.{◌≡◌, All, vec_len}
use Rattle.slot_log.specs.Loads.{none_created}
use Rattle.replay_crew.specs.Jobs.{orders_of}
use Rattle.crew_run.proofs.seating.loaders_for.Given as goal

abbrev pub invariant-loop-slot : goal.invariant-loop-slot
invariant-loop-slot l = record {
  count : vec_len l.loaders ≡ l._slot;
  new : All (λ loader. loader ≡ none_created (orders_of l.fn.jobs).plan) l.loaders.items;
}
