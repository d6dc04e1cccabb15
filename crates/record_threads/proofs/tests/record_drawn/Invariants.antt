use Rattle.std.proofs.Common.{◌+◌, ◌≤◌}
use Rattle.turn_desk.specs.Seats.{view_of, IsSameSeat, IsOutside}
use Rattle.record_threads.proofs.tests.record_drawn.Given as goal

abbrev pub invariant-loop-counter : goal.invariant-loop-counter
invariant-loop-counter g l = IsSameSeat l.initial.seat l.seat × IsOutside l.seat × ((view_of l.seat).turns ≤ l.counter)

abbrev pub invariant-loop-hash : goal.invariant-loop-hash
invariant-loop-hash g l = IsSameSeat l.initial.seat l.seat × IsOutside l.seat × ((view_of l.seat).turns ≤ 400 + l.hash)
