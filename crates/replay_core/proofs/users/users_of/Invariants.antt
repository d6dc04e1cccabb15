use Rattle.std.proofs.Common.{List, ℕ, ◌≡◌, [], replicate}
use Rattle.replay_core.specs.Worklists.{AreUsers, rows_of}
use Rattle.replay_core.proofs.users.users_of.Given as goal

abbrev pub invariant-loop-row : goal.invariant-loop-row
invariant-loop-row l = rows_of l.users ≡ replicate {A = List ℕ} l._row-index []

abbrev pub invariant-loop-i : goal.invariant-loop-i
invariant-loop-i l = AreUsers l.plan l.i (rows_of l.users)
