-- The root of a board while seats go out and come back.
use Rattle.std.specs.Prelude.{ℕ, ◌≡◌, ◌+◌, List, []}
use mathlib.Core.Option.{some}
use mathlib.Core.List.{IsPrefix}
use lib.ListN.{get_elem?}
use Rattle.turn_desk.specs.declared.view.View.{View}
use Rattle.replay_core.specs.Runs.{Setup}
use Rattle.replay_board.specs.declared.asker.Asker.{Asker}
use Rattle.replay_board.specs.declared.board.Board.{Board}
use Rattle.replay_board.specs.declared.note.BoardNote.{BoardNote}
use Rattle.replay_board.specs.declared.origin.BoardOrigin.{BoardOrigin}
use Rattle.replay_board.specs.declared.seat.BoardSeat.{BoardSeat}
use Rattle.replay_board.specs.Seats.{desk_view, turns_of, setup_seen, IsRootSeat}
use Rattle.replay_crew.specs.declared.kit.Kit.{Kit}
use Rattle.replay_crew.specs.Kits.{seat_in}

-- the root, after so many seats went out and none came back
pub record HasSplit (board : Board) (setup : Setup) (count : ℕ) (root : BoardSeat) : Type 0 where
  pub is_root : IsRootSeat board root
  pub knows : setup_seen root ≡ setup
  pub out : (desk_view root).out ≡ count
  pub made : (desk_view root).made ≡ count + 1
  pub turns : turns_of root ≡ count
  pub joined : (desk_view root).joined ≡ []

-- the root took the seat back, and has seen what that one had
abbrev pub HasBack : View BoardNote BoardOrigin → View BoardNote BoardOrigin → Type 0
HasBack root seat = ((q : ℕ) × (get_elem? root.joined q ≡ some (record { number = seat.number; notes = seat.mine; seen = seat.seen }))) × IsPrefix seat.seen root.seen

-- the root took the seats of all these kits back
pub record HasAllKits (root : BoardSeat) (kits : List (Kit Asker)) : Type 0 where
  pub each : (p : ℕ) (kit : Kit Asker) → get_elem? kits p ≡ some kit → HasBack (desk_view root) (desk_view (seat_in kit).seat)
