use Rattle.std.proofs.Common.{ℕ, ◌≡◌, take, length}
use Rattle.std.specs.Prelude.{sum_by, Vec}
use Rattle.std.specs.Global.{Global}
use Rattle.replay_core.proofs.worklist.total_len.Given as goal

abbrev pub invariant-loop-row : goal.invariant-loop-row
invariant-loop-row l = l.total ≡ sum_by (λ (v : Vec ℕ Global). length v.items) (take l.row-index l.users)
