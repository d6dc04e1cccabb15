use Rattle.std.proofs.Common.{◌≡◌, ℕ, ◌≤◌, [], vec_len, vec_capacity}
use Rattle.turn_desk.specs.Seats.{view_of}
use Rattle.turn_desk.specs.Story.{root_of}
use Rattle.record_words.specs.Story.{At}
use Rattle.record_dedup.specs.Kept.{Booked}
use Rattle.record_team.specs.Team.{after_splits, new_view}
use Rattle.record_team.proofs.team.recruited.Given as goal

abbrev pub invariant-loop-thread : goal.invariant-loop-thread
invariant-loop-thread g l = record {
  seat : l.root.token.table_id ≡ l.fn.root.token.table_id;
  view : view_of l.root ≡ after_splits (view_of l.fn.root) l.thread;
  room : l.threads ≤ vec_capacity l.mates;
  count : vec_len l.mates ≡ l.thread;
  mates : (origin : Booked _) → view_of l.fn.root ≡ root_of origin
      → (i : ℕ) (mate : _) → At l.mates.items i mate → (mate.thread ≡ i) × (mate.seat.token.table_id ≡ l.fn.root.token.table_id) × (view_of mate.seat ≡ new_view origin i) × (mate.lines ≡ l.fn.lines) × (mate.told ≡ []);
}
