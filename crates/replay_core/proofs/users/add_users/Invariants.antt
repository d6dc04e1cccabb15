use Rattle.std.specs.Prelude.{take}
use Rattle.replay_core.specs.Worklists.{AddsUsers, rows_of}
use Rattle.replay_core.proofs.users.add_users.Given as goal

abbrev pub invariant-loop-dep : goal.invariant-loop-dep
invariant-loop-dep l = AddsUsers (rows_of l.fn.users) (rows_of l.users) (take l.dep-index l.deps) l.item
