-- What the steps of a worker do.
use Rattle.std.specs.Prelude.{ℕ, ◌≡◌, ◌⊎◌, List, ◌++◌, length, Option, Some, None, ⊤}
use Rattle.foz_words.specs.declared.key.Key.{Key}
use Rattle.state_words.specs.declared.state.State.{State}
use Rattle.worker_msg.specs.declared.msg.Msg.{Msg}
use Rattle.worker_msg.specs.declared.msg.Msg.TheVariants.{Hello, Load, Do, Reply, Quit}
use Rattle.worker_msg.specs.Fronts.{IsPartial}
use Rattle.worker_msg.specs.Feeds.{Feeding, TakesMessage, IsBadAt}
use Rattle.worker_msg.specs.Streams.{row_of}
use Rattle.worker_node.specs.Sessions.{Standing, Works, WorksAll}
use Rattle.worker_msg.specs.Frames.{spelling}
use Rattle.worker_msg.specs.declared.side.Side.TheVariants.{Worker}
use Rattle.worker_node.specs.Ends.{BeginsQuit, IsCut, IsEnd, IsServed}
use Rattle.worker_node.specs.declared.ends.End.{End}
use Rattle.worker_node.specs.declared.ends.End.TheVariants as ends
use Rattle.worker_node.specs.declared.ends.Stopped.{Stopped}
use Rattle.worker_node.specs.declared.ends.Stopped.TheVariants as stops
use Rattle.worker_node.specs.declared.working.Next.{Next}
use Rattle.worker_node.specs.declared.working.Next.TheVariants as nexts
use Rattle.worker_node.specs.declared.served.Served.{Served}
use Rattle.worker_node.specs.declared.served.Served.TheVariants as served

abbrev pub IsWork : Msg → Type 0
IsWork Hello = ⊥
IsWork (Load key payload) = ⊤
IsWork (Do key payload) = ⊤
IsWork (Reply key code) = ⊥
IsWork Quit = ⊥

-- what ends the session stands first among what is kept
abbrev pub EndsAt : Feeding → End → Type 0
EndsAt feed ends.Quit = BeginsQuit feed.kept
EndsAt feed (ends.BadFrame at) = IsBadAt feed at

-- what stands next: a Load or a Do, no whole frame, or what ends the session
abbrev pub IsNext : Feeding → Next → Feeding → Type 0
IsNext old (nexts.Message message) new = TakesMessage old message new × IsWork message
IsNext old nexts.Partial new = IsPartial old.side old.kept × (new ≡ old)
IsNext old (nexts.Ends end) new = EndsAt old end

-- the end of serving that it comes to
abbrev pub ended : End → Served
ended ends.Quit = served.Quit
ended (ends.BadFrame at) = served.BadFrame at

abbrev pub stopped_as : Stopped → Served
stopped_as stops.WriteFault = served.WriteFault
stopped_as stops.Memory = served.Memory

-- a message was worked off, and its replies were written
pub record IsWorked {M : Type 0} (creates : M → Key → State → ℕ → M → Type 0) (old : List ℕ) (before : Standing M) (message : Msg) (after : Standing M) (new : List ℕ) : Type 0 where
  pub replies : List Msg
  pub works : Works creates before message replies after
  pub written : new ≡ old ++ row_of replies

-- a message was worked off, and some of what it is answered may be missing
pub record IsWorkedShort {M : Type 0} (creates : M → Key → State → ℕ → M → Type 0) (old : List ℕ) (before : Standing M) (message : Msg) (after : M) (new : List ℕ) : Type 0 where
  pub replies : List Msg
  pub standing : Standing M
  pub works : Works creates before message replies standing
  pub meaning : after ≡ standing.meaning
  pub front : List ℕ
  pub unwritten : List ℕ
  pub parts : row_of replies ≡ front ++ unwritten
  pub written : new ≡ old ++ front

-- nothing was done
pub record IsUntouched {M : Type 0} (old : List ℕ) (before after : M) (new : List ℕ) : Type 0 where
  pub written : new ≡ old
  pub meaning : after ≡ before

-- what is done of a message whose work was stopped
abbrev pub IsUnworked : {M : Type 0} (creates : M → Key → State → ℕ → M → Type 0) (old : List ℕ) (before : Standing M) (message : Msg) (after : M) (new : List ℕ) → Type 0
IsUnworked creates old before message after new = IsUntouched old before.meaning after new ⊎ IsWorkedShort creates old before message after new

-- ---- all messages that were taken so far

-- the messages of what was taken from the source, up to what the feed keeps
pub record IsCutting (taken : List ℕ) (feed : Feeding) : Type 0 where
  pub messages : List Msg
  pub side : feed.side ≡ Worker
  pub cut : IsCut taken messages feed.kept
  pub place : feed.place ≡ length (row_of messages)

-- these messages are worked off, and all replies are written after what was written before
pub record IsWorking {M : Type 0} (creates : M → Key → State → ℕ → M → Type 0) (before : M) (start taken : List ℕ) (feed : Feeding) (output : List ℕ) (standing : Standing M) : Type 0 where
  pub messages : List Msg
  pub replies : List Msg
  pub side : feed.side ≡ Worker
  pub cut : IsCut taken messages feed.kept
  pub works : WorksAll creates before messages replies standing
  pub written : output ≡ start ++ (spelling Hello ++ row_of replies)

-- serving ended so, and wrote this after what was written before
pub record IsServedBehind {M : Type 0} (creates : M → Key → State → ℕ → M → Type 0) (before : M) (start taken written : List ℕ) (after : M) (end : Served) : Type 0 where
  pub out : List ℕ
  pub is : written ≡ start ++ out
  pub served : IsServed creates before taken out after end

-- the messages came to an unfinished frame, or to an end, whatever is left in the source
abbrev pub Reaches : List ℕ → Feeding → Option End → Type 0
Reaches taken feed None = IsCutting taken feed × IsPartial Worker feed.kept
Reaches taken feed (Some end) = (left : List ℕ) → IsEnd taken left (ended end)

-- they are worked off up to there
abbrev pub IsWorkedOff : {M : Type 0} (creates : M → Key → State → ℕ → M → Type 0) (before : M) (start taken : List ℕ) (feed : Feeding) (output : List ℕ) (standing : Standing M) → Option End → Type 0
IsWorkedOff creates before start taken feed output standing None = IsWorking creates before start taken feed output standing
IsWorkedOff creates before start taken feed output standing (Some end) = IsServedBehind creates before start taken output standing.meaning (ended end)
