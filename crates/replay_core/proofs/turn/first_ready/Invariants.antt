use Rattle.std.proofs.Common.{◌≡◌, ◌-◌, length}
use Rattle.replay_core.specs.Queues.{QueuesKept}
use Rattle.replay_core.proofs.turn.first_ready.Given as goal

abbrev pub invariant-loop-queues : goal.invariant-loop-queues
invariant-loop-queues l = record { kept : QueuesKept l.story l.queues; done : l.queues.list.head ≡ length l.queues.list.fresh.items }

abbrev pub decreases-loop-queues : goal.decreases-loop-queues
decreases-loop-queues l = length l.queues.ready.items - l.queues.taken
