use Rattle.std.proofs.Common.{◌-◌}
use Rattle.replay_core.specs.Searching.{IsSearch}
use Rattle.replay_core.specs.Worklists.{work_of}
use Rattle.replay_core.proofs.founded.search_founded.Given as goal

abbrev pub invariant-loop-list : goal.invariant-loop-list
invariant-loop-list l = IsSearch l.plan l.list

abbrev pub decreases-loop-list : goal.decreases-loop-list
decreases-loop-list l = work_of l.list - l.list.head
