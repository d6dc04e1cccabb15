-- A stream of messages, and a feed that it went into piece by piece.
use Rattle.std.specs.Prelude.{ℕ, ◌≡◌, ◌⊎◌, List, [], ◌∷◌, ◌++◌}
use Rattle.std.specs.List.{AllByRecursion, flat_map}
use Rattle.worker_msg.specs.Frames.{spelling, Sent}
use Rattle.worker_msg.specs.Fronts.{IsPartial, IsBad}
use Rattle.worker_msg.specs.Feeds.{Feeding, TakesMessage}
use Rattle.worker_msg.specs.declared.msg.Msg.{Msg}
use Rattle.worker_msg.specs.declared.side.Side.{Side}

-- the messages, spelled in a row
unfoldable pub row_of : List Msg → List ℕ
row_of messages = flat_map spelling messages

-- the stream is messages that this side takes, in a row, and then the rest
pub record Splits (side : Side) (stream : List ℕ) (messages : List Msg) (rest : List ℕ) : Type 0 where
  pub whole : stream ≡ row_of messages ++ rest
  pub each : AllByRecursion (Sent side) messages

-- no message can be taken from the beginning: no whole frame stands there, or a bad one
abbrev pub HasNone : Side → List ℕ → Type 0
HasNone side rest = IsPartial side rest ⊎ ((place : ℕ) × IsBad side rest place)

-- what a new feed of this side has come to, after pieces that make up these bytes were given and these messages taken, in
-- whatever turns
pub data Fed (side : Side) : List ℕ → List Msg → Feeding → Type 0 where
  starts : Fed side [] [] (record { side = side; place = 0; kept = [] })
  gives : (given piece : List ℕ) (messages : List Msg) (feed : Feeding) → Fed side given messages feed
      → Fed side (given ++ piece) messages (record { side = feed.side; place = feed.place; kept = feed.kept ++ piece })
  takes : (given : List ℕ) (messages : List Msg) (message : Msg) (old new : Feeding) → Fed side given messages old → TakesMessage old message new
      → Fed side given (messages ++ message ∷ []) new
