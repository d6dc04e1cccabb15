use Rattle.std.proofs.Common.{◌≤◌, ◌+◌}
use Rattle.std.specs.Vec.{vec_capacity}
use Rattle.replay_core.specs.Worklists.{IsUpTo}
use Rattle.replay_core.proofs.worklist.all_items.Given as goal

abbrev pub invariant-loop-item : goal.invariant-loop-item
invariant-loop-item l = record { items : IsUpTo l.item l.all.items; room : l.fn.items + l.fn.room ≤ vec_capacity l.all }
