use Rattle.std.proofs.Common.{◌-◌, length}
use Rattle.spirv_check.proofs.Walking.{Walking}
use Rattle.spirv_check.proofs.module.walk.Given as goal

abbrev pub invariant-loop-at : goal.invariant-loop-at
invariant-loop-at l = Walking l.words l.at l.seen

abbrev pub decreases-loop-at : goal.decreases-loop-at
decreases-loop-at l = length l.words - l.at
