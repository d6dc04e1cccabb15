use Rattle.std.proofs.Common.{length, ◌-◌}
use Rattle.float_fold.proofs.Steps.{Reached}
use Rattle.float_fold.proofs.folding.fold_floats.Given as goal

abbrev pub invariant-loop-at : goal.invariant-loop-at
invariant-loop-at l = Reached l.text l.folded l.copied l.at

abbrev pub decreases-loop-at : goal.decreases-loop-at
decreases-loop-at l = length l.text - l.at
