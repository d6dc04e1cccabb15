-- What contracts say of a board and of a seat.
use Rattle.std.specs.Prelude.{ℕ, ◌≡◌, ◌-◌, ◌<◌, ◌≤◌, List, Some}
use Rattle.std.specs.List.{filter}
use Rattle.replay_core.specs.declared.event.Event.{Event}
use Rattle.replay_core.specs.Runs.{Setup, names}
use Rattle.turn_desk.specs.declared.view.View.{View}
use Rattle.turn_desk.specs.Seats.{view_of, IsSeatOf}
use Rattle.progress_block.specs.declared.ends.Reader.{Reader}
use Rattle.progress_block.specs.Ends.{cell_of, IsReaderOf}
use Rattle.replay_board.specs.declared.board.Board.{Board}
use Rattle.replay_board.specs.declared.note.BoardNote.{BoardNote}
use Rattle.replay_board.specs.declared.origin.BoardOrigin.{BoardOrigin}
use Rattle.replay_board.specs.declared.seat.BoardSeat.{BoardSeat}
use Rattle.replay_board.specs.Notes.{events_in, setup_known}

-- what the seat knows at the desk
abbrev pub desk_view : BoardSeat → View BoardNote BoardOrigin
desk_view s = view_of s.seat

-- the notes that the seat has seen, and those of them that it made
abbrev pub notes_seen : BoardSeat → List BoardNote
notes_seen s = (desk_view s).seen

abbrev pub own_notes : BoardSeat → List BoardNote
own_notes s = (desk_view s).mine

abbrev pub number_of : BoardSeat → ℕ
number_of s = (desk_view s).number

abbrev pub turns_of : BoardSeat → ℕ
turns_of s = (desk_view s).turns

-- the slot whose events the seat makes, where it is not the root
abbrev pub slot_of : BoardSeat → ℕ
slot_of s = number_of s - 1

-- what the scheduler was given
abbrev pub setup_seen : BoardSeat → Setup
setup_seen s = setup_known (desk_view s).origin

-- the events that the seat has seen
abbrev pub events_seen : BoardSeat → List Event
events_seen s = events_in (notes_seen s)

-- the events of the seat's slot, among those that the seat made
abbrev pub own_events : BoardSeat → List Event
own_events s = filter (names (slot_of s)) (events_in (own_notes s))

-- the board made the seat, which knows the board's progress cell and that there are few slots
pub record IsBoardSeat (board : Board) (s : BoardSeat) : Type 0 where
  pub desk : IsSeatOf board.desk s.seat
  pub origin : BoardOrigin
  pub known : (desk_view s).origin ≡ Some origin
  pub cell : origin.cell.cell ≡ cell_of board.progress
  pub few : (setup_seen s).slots ≤ 16

-- the board made the seat for one of its slots
pub record IsSlotSeat (board : Board) (s : BoardSeat) : Type 0 where
  pub of_board : IsBoardSeat board s
  pub some_slot : 0 < number_of s
  pub slot : slot_of s < (setup_seen s).slots

-- the root seat of the board
abbrev pub IsRootSeat : Board → BoardSeat → Type 0
IsRootSeat board s = IsBoardSeat board s × (number_of s ≡ 0)

-- the board made the reader
abbrev pub IsBoardReader : Board → Reader → Type 0
IsBoardReader board reader = IsReaderOf board.progress reader
