use Rattle.std.proofs.Common.{◌≤◌}
use Rattle.turn_desk.specs.Seats.{view_of, IsSameSeat, IsOutside}
use Rattle.record_threads.proofs.tests.are_answered.Given as goal

abbrev pub invariant-loop-one : goal.invariant-loop-one
invariant-loop-one g l = IsSameSeat l.initial.seat l.seat × IsOutside l.seat × ((view_of l.seat).turns ≤ l.one-index)
