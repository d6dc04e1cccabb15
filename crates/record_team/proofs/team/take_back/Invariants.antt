use Rattle.std.proofs.Common.{◌≡◌, ◌+◌, ◌≤◌, List, ◌++◌, length, map, vec_len, vec_capacity}
use Rattle.turn_desk.specs.Seats.{view_of}
use Rattle.turn_desk.specs.Story.{HasKept}
use Rattle.record_threads.specs.Calls.{seat_of}
use Rattle.record_team.specs.Team.{IsBack}
use Rattle.record_team.proofs.team.take_back.Given as goal

abbrev pub invariant-loop-mate : goal.invariant-loop-mate
invariant-loop-mate g l = record {
  seat : l.root.token.table_id ≡ l.fn.root.token.table_id;
  done : List _;
  cut : l.fn.mates.items ≡ done ++ l.mates.items;
  back : IsBack (view_of l.fn.root) (map (λ mate. view_of mate.seat) done) (view_of l.root);
  told : l.told.items ≡ l.fn.told.items ++ map (λ mate. mate.told) done;
  kept : HasKept seat_of (view_of l.root).joined (view_of l.root).seen;
  room : vec_len l.told + length l.mates.items ≤ vec_capacity l.told;
}

abbrev pub decreases-loop-mate : goal.decreases-loop-mate
decreases-loop-mate g l = length l.mates.items
