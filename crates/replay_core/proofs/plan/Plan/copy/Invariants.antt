use Rattle.std.proofs.Common.{◌≡◌, take}
use Rattle.replay_core.proofs.plan.Plan.copy.Given as goal

abbrev pub invariant-loop-row : goal.invariant-loop-row
invariant-loop-row l = l.deps.items ≡ take l.row-index l.rows
