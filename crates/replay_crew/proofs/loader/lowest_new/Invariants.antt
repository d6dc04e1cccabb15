use Rattle.std.proofs.Common.{◌≡◌, ◌<◌, false, length}
use Rattle.replay_core.specs.Plans.{Founded}
use Rattle.replay_core.specs.Ranks.{rank}
use Rattle.slot_log.specs.Loads.{DependsOn, is_created}
use Rattle.replay_crew.proofs.loader.lowest_new.Given as goal

abbrev pub invariant-loop-lower : goal.invariant-loop-lower
invariant-loop-lower l = record {
  below : DependsOn l.plan l.item l.lowest;
  new : is_created l.created l.lowest ≡ false;
  inside : l.lowest < length l.created;
  founded : Founded l.plan l.lowest;
}

abbrev pub decreases-loop-lower : goal.decreases-loop-lower
decreases-loop-lower l = rank l.plan l.lowest
