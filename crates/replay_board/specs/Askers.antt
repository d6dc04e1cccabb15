-- What contracts say of what the loop of a slot has.
use Rattle.std.specs.Prelude.{◌≡◌, []}
use Rattle.replay_board.specs.declared.asker.Asker.{Asker}
use Rattle.replay_board.specs.declared.board.Board.{Board}
use Rattle.replay_board.specs.Seats.{turns_of, own_events, IsSlotSeat, IsBoardReader}

-- the seat is one that the board made for a slot, and the reader is the board's
abbrev pub IsAsker : Board → Asker → Type 0
IsAsker board asker = IsSlotSeat board asker.seat × IsBoardReader board asker.reader

-- no turn was made yet
pub record IsNewAsker (board : Board) (asker : Asker) : Type 0 where
  pub of_board : IsAsker board asker
  pub turns : turns_of asker.seat ≡ 0
  pub events : own_events asker.seat ≡ []
