use Rattle.std.proofs.Common.{length, ◌-◌}
use Rattle.float_fold.proofs.Pieces.{Walked}
use Rattle.float_fold.proofs.piece.rest_of_text.Given as goal

abbrev pub invariant-loop-plain : goal.invariant-loop-plain
invariant-loop-plain l = Walked l.bytes l.at

abbrev pub decreases-loop-plain : goal.decreases-loop-plain
decreases-loop-plain l = length l.bytes - l.at
