-- A session over the bytes of a stream, and how serving it ends.
use Rattle.std.specs.Prelude.{ℕ, ◌≡◌, ◌≢◌, ◌+◌, ◌⊎◌, List, [], ◌++◌, length, ⊤}
use Rattle.std.specs.List.{AllByRecursion}
use Rattle.foz_words.specs.declared.key.Key.{Key}
use Rattle.state_words.specs.declared.state.State.{State}
use Rattle.worker_msg.specs.declared.msg.Msg.{Msg}
use Rattle.worker_msg.specs.declared.msg.Msg.TheVariants.{Hello, Quit}
use Rattle.worker_msg.specs.declared.side.Side.TheVariants.{Worker}
use Rattle.worker_msg.specs.Frames.{spelling}
use Rattle.worker_msg.specs.Fronts.{IsPartial, IsBad}
use Rattle.worker_msg.specs.Streams.{row_of, Splits, HasNone}
use Rattle.worker_node.specs.Sessions.{Standing, WorksAll}
use Rattle.worker_node.specs.declared.served.Served.{Served}
use Rattle.worker_node.specs.declared.served.Served.TheVariants as served

-- the stream is these messages, none of which is a Quit, and then the rest
pub record IsCut (stream : List ℕ) (messages : List Msg) (rest : List ℕ) : Type 0 where
  pub split : Splits Worker stream messages rest
  pub going : AllByRecursion (λ message. message ≢ Quit) messages

-- a Quit stands at the beginning
abbrev pub BeginsQuit : List ℕ → Type 0
BeginsQuit rest = (more : List ℕ) × (rest ≡ spelling Quit ++ more)

-- no message that is worked off stands at the beginning
abbrev pub Stops : List ℕ → Type 0
Stops rest = BeginsQuit rest ⊎ HasNone Worker rest

-- The messages at the beginning of a stream are worked off. What is written is a Hello, and a reply to each Do.
pub record IsSession {M : Type 0} (creates : M → Key → State → ℕ → M → Type 0) (before : M) (stream rest out : List ℕ) (after : M) : Type 0 where
  pub messages : List Msg
  pub replies : List Msg
  pub standing : Standing M
  pub cut : IsCut stream messages rest
  pub works : WorksAll creates before messages replies standing
  pub written : out ≡ spelling Hello ++ row_of replies
  pub meaning : after ≡ standing.meaning

-- all of the stream is worked off
pub record IsWholeSession {M : Type 0} (creates : M → Key → State → ℕ → M → Type 0) (before : M) (stream out : List ℕ) (after : M) : Type 0 where
  pub rest : List ℕ
  pub session : IsSession creates before stream rest out after
  pub stops : Stops rest

-- a prefix of the stream is worked off, and of what that session writes a prefix was written
pub record IsCutShort {M : Type 0} (creates : M → Key → State → ℕ → M → Type 0) (before : M) (stream out : List ℕ) (after : M) : Type 0 where
  pub front : List ℕ
  pub behind : List ℕ
  pub whole : List ℕ
  pub unwritten : List ℕ
  pub parts : stream ≡ front ++ behind
  pub session : IsWholeSession creates before front whole after
  pub written : whole ≡ out ++ unwritten

-- how far serving came, by its end
abbrev pub IsServed : {M : Type 0} (creates : M → Key → State → ℕ → M → Type 0) (before : M) (stream out : List ℕ) (after : M) → Served → Type 0
IsServed creates before stream out after served.Quit = IsWholeSession creates before stream out after
IsServed creates before stream out after (served.InputEnded left) = IsWholeSession creates before stream out after
IsServed creates before stream out after (served.BadFrame at) = IsWholeSession creates before stream out after
IsServed creates before stream out after served.ReadFault = IsWholeSession creates before stream out after
IsServed creates before stream out after served.WriteFault = IsCutShort creates before stream out after
IsServed creates before stream out after served.Memory = IsCutShort creates before stream out after

-- What these messages of a stream come to with the rest: a Quit, a bad frame at this place, or so many bytes of an unfinished
-- frame, where the source has nothing left.
abbrev pub ComesTo : (left : List ℕ) (messages : List Msg) (rest : List ℕ) → Served → Type 0
ComesTo left messages rest served.Quit = BeginsQuit rest
ComesTo left messages rest (served.BadFrame at) = (place : ℕ) × IsBad Worker rest place × (at ≡ length (row_of messages) + place)
ComesTo left messages rest (served.InputEnded size) = IsPartial Worker rest × (size ≡ length rest) × (left ≡ [])
ComesTo left messages rest served.ReadFault = ⊥
ComesTo left messages rest served.WriteFault = ⊥
ComesTo left messages rest served.Memory = ⊥

-- the end of a stream after which so much is left in the source
pub record IsEnd (stream left : List ℕ) (end : Served) : Type 0 where
  pub messages : List Msg
  pub rest : List ℕ
  pub cut : IsCut stream messages rest
  pub comes : ComesTo left messages rest end

-- no call failed, and memory didn't run out
abbrev pub IsToEnd : Served → Type 0
IsToEnd served.Quit = ⊤
IsToEnd (served.InputEnded left) = ⊤
IsToEnd (served.BadFrame at) = ⊤
IsToEnd served.ReadFault = ⊥
IsToEnd served.WriteFault = ⊥
IsToEnd served.Memory = ⊥
