use Rattle.std.proofs.Common.{◌≡◌, ◌*◌, ◌<◌, ◌≤◌, List, ◌++◌, length}
use Rattle.turn_desk.specs.Seats.{view_of}
use Rattle.record_words.specs.Recorded.{Line}
use Rattle.record_dedup.specs.Kept.{Booked, recorder_of}
use Rattle.record_team.specs.Batched.{Waits}
use Rattle.record_team.specs.Work.{IsAtWork, IsSame, HasAnswered}
use Rattle.record_team.proofs.mate.Teammate+RecordSeat+D+L.work.Given as goal

abbrev pub invariant-lines : goal.invariant-lines
invariant-lines g l = record {
  thread : l.self.thread ≡ l.fn.self.thread;
  seat : l.self.seat.token.table_id ≡ l.fn.self.seat.token.table_id;
  work : (origin : Booked _) → IsAtWork origin (view_of l.fn.self.seat) → IsAtWork origin (view_of l.self.seat);
  same : IsSame (view_of l.fn.self.seat) (view_of l.self.seat);
  turns : (view_of l.self.seat).turns ≤ 2 * l.number;
  few : l.waiting < 64;
  waits : Waits 0 (view_of l.self.seat).mine l.waiting;
  done : List (Line _);
  cut : g.L.Lines.rest l.fn.self.lines ≡ done ++ g.L.Lines.rest l.self.lines;
  count : length done ≡ l.number;
  answered : (origin : Booked _) → IsAtWork origin (view_of l.fn.self.seat) → HasAnswered (recorder_of origin) done l.threads l.fn.self.thread (view_of l.fn.self.seat).number (view_of l.self.seat).seen l.self.told;
}

abbrev pub decreases-lines : goal.decreases-lines
decreases-lines g l = length (g.L.Lines.rest l.self.lines)
