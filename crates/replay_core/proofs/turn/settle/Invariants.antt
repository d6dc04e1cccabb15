use Rattle.std.proofs.Common.{◌-◌}
use Rattle.replay_core.specs.Turns.{AddsMisses}
use Rattle.replay_core.specs.Queues.{QueuesKept}
use Rattle.replay_core.specs.Worklists.{work_of}
use Rattle.replay_core.proofs.turn.settle.Given as goal

abbrev pub invariant-loop-queues : goal.invariant-loop-queues
invariant-loop-queues l = record { kept : QueuesKept l.story l.queues; misses : AddsMisses l.fn.story l.story }

abbrev pub decreases-loop-queues : goal.decreases-loop-queues
decreases-loop-queues l = work_of l.queues.list - l.queues.list.head
