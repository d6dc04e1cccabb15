use Rattle.std.proofs.Common.{◌≡◌}
use Rattle.replay_board.specs.Seats.{IsBoardReader}
use Rattle.replay_board.proofs.asker.BoardSlotTurns.wait_for_more.Given as goal

abbrev pub invariant-loop : goal.invariant-loop
invariant-loop g l = record {
  next : (goal.iterator-loop g).can_next l.iterator';
  finite : (goal.iterator-loop g).is_finite l.iterator';
  seat : l.seat.seat ≡ l.initial.seat.seat;
  heard : l.seat.heard ≡ l.initial.seat.heard;
  reader : IsBoardReader l.self l.seat.reader;
}
