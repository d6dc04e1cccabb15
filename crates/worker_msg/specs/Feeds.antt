-- A feed, and what taking a message from it answers.
use Rattle.std.specs.Prelude.{ℕ, ◌≡◌, ◌+◌, List, ◌++◌, length, Option, Some, None, Result, Ok, Err}
use Rattle.worker_msg.specs.Frames.{spelling, Sent}
use Rattle.worker_msg.specs.Fronts.{IsPartial, IsBad}
use Rattle.worker_msg.specs.declared.msg.Msg.{Msg}
use Rattle.worker_msg.specs.declared.msg.Msg.TheVariants.{Hello, Load, Do, Reply, Quit}
use Rattle.worker_msg.specs.declared.side.Side.{Side}
use Rattle.worker_msg.specs.declared.side.Side.TheVariants.{Worker, Crew}
use Rattle.worker_msg.specs.declared.store.Store.{Store}
use Rattle.worker_msg.specs.declared.store.Store.TheVariants as stores
use Rattle.worker_msg.specs.declared.error.TakeFrame.{TakeFrame}
use Rattle.worker_msg.specs.declared.error.TakeFrame.TheVariants.{BadFrame, Memory}

pub record Feeding : Type 0 where
  pub side : Side
  -- how many bytes messages were taken from, which is the place of the first byte that is kept
  pub place : ℕ
  pub kept : List ℕ

-- how many bytes it was given in all
abbrev pub given_to : Feeding → ℕ
given_to feed = feed.place + length feed.kept

-- who reads what is stored, and the bytes
abbrev pub side_of : Store → Side
side_of (stores.Worker pieces) = Worker
side_of (stores.Crew reply) = Crew

abbrev pub kept_of : Store → List ℕ
kept_of (stores.Worker pieces) = pieces
kept_of (stores.Crew reply) = reply

-- the bytes are the spelling of a message that this side takes
pub record Spells (side : Side) (bytes : List ℕ) (message : Msg) : Type 0 where
  pub sent : Sent side message
  pub spelled : bytes ≡ spelling message

abbrev pub CarriesPayload : Msg → Type 0
CarriesPayload Hello = ⊥
CarriesPayload (Load key payload) = Unit {0}
CarriesPayload (Do key payload) = Unit {0}
CarriesPayload (Reply key code) = ⊥
CarriesPayload Quit = ⊥

-- the bytes are the spelling of a Load or of a Do
pub record HasPayload (side : Side) (bytes : List ℕ) : Type 0 where
  pub message : Msg
  pub spells : Spells side bytes message
  pub carries : CarriesPayload message

-- the message's spelling stood at the beginning, and what follows it is kept
pub record TakesMessage (old : Feeding) (message : Msg) (new : Feeding) : Type 0 where
  pub sent : Sent old.side message
  pub spelled : old.kept ≡ spelling message ++ new.kept
  pub place : new.place ≡ old.place + length (spelling message)
  pub side : new.side ≡ old.side

-- a bad frame, by its place in all bytes that were given
pub record IsBadAt (feed : Feeding) (at : ℕ) : Type 0 where
  pub within : ℕ
  pub bad : IsBad feed.side feed.kept within
  pub place : at ≡ feed.place + within

-- a Load or a Do stands at the beginning
pub record WantsMemory (feed : Feeding) : Type 0 where
  pub message : Msg
  pub rest : List ℕ
  pub sent : Sent feed.side message
  pub carries : CarriesPayload message
  pub spelled : feed.kept ≡ spelling message ++ rest

abbrev pub Answers : Feeding → Result (Option Msg) TakeFrame → Feeding → Type 0
Answers old (Ok (Some message)) new = TakesMessage old message new
Answers old (Ok None) new = IsPartial old.side old.kept × (new ≡ old)
Answers old (Err (BadFrame at)) new = IsBadAt old at × (new ≡ old)
Answers old (Err Memory) new = WantsMemory old × (new ≡ old)
