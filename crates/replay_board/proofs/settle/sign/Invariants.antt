use Rattle.std.proofs.Common.{◌≡◌, ◌-◌, ◌≤◌, ◌++◌, length, replicate}
use Rattle.std.specs.Vec.{vec_capacity}
use Rattle.replay_board.proofs.settle.sign.Given as goal

abbrev pub invariant-loop-event : goal.invariant-loop-event
invariant-loop-event l = record {
  makers : l.makers.items ≡ l.initial.makers.items ++ replicate (l._event - length l.initial.makers.items) l.seat;
  room : l.events ≤ vec_capacity l.makers;
  capacity : vec_capacity l.initial.makers ≤ vec_capacity l.makers;
}
