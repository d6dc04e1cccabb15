use Rattle.std.proofs.Common.{take}
use Rattle.std.specs.Prelude.{All}
use Rattle.slot_log.specs.Loads.{IsCreatedDep}
use Rattle.replay_crew.proofs.loader.first_new_of.Given as goal

abbrev pub invariant-loop-dep : goal.invariant-loop-dep
invariant-loop-dep l = All (IsCreatedDep l.created) (take l.dep-index l.deps)
