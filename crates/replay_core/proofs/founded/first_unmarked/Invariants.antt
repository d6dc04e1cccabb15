use Rattle.std.specs.Prelude.{All, take}
use Rattle.replay_core.specs.Searching.{IsMarked}
use Rattle.replay_core.proofs.founded.first_unmarked.Given as goal

abbrev pub invariant-loop-place : goal.invariant-loop-place
invariant-loop-place l = All (IsMarked l.marks) (take l.place l.deps)
