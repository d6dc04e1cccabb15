-- What a call does to the scheduler.
use Rattle.std.specs.Prelude.{ℕ, ◌≡◌, ◌↔◌, List, [], ◌∷◌, All, length}
use Rattle.replay_core.specs.declared.answer.Next.{Next}
use Rattle.replay_core.specs.declared.answer.Next.TheVariants.{Finished}
use Rattle.replay_core.specs.declared.event.Event.{Event}
use Rattle.replay_core.specs.declared.event.Event.TheVariants.{Reply}
use Rattle.replay_core.specs.declared.event.SlotState.{SlotState}
use Rattle.replay_core.specs.declared.event.SlotState.TheVariants.{Holds}
use Rattle.replay_core.specs.Runs.{AllDecided, NoMiss, slot_at}
use Rattle.replay_core.specs.Histories.{History, with_events}
use Rattle.replay_core.specs.Turns.{TakesTurn, IsFoundedWork}
use Rattle.replay_core.specs.declared.counts.Counts.{Counts}
use Rattle.replay_board.specs.Notes.{MayMake, AreByMakers, signed}
use Rattle.replay_board.specs.Counted.{AreCounted}

-- one event was added
abbrev pub Adds : Event → History → History → Type 0
Adds event before after = after ≡ with_events before (event ∷ [])

-- the slot has an item in its hands
abbrev pub IsHolding : SlotState → Type 0
IsHolding state = (item : ℕ) × (state ≡ Holds item)

-- the worker of slot w answered for the item in the slot's hands
abbrev pub Answers : ℕ → ℕ → History → History → Type 0
Answers w code before after = (item : ℕ) × (slot_at before.events w ≡ Holds item) × Adds (Reply w item code) before after

-- slot w asked for work and was told this
pub record Asks (w : ℕ) (answer : Next) (before after : History) : Type 0 where
  pub turn : TakesTurn before w answer after
  pub no_miss : NoMiss after.setup after.events
  pub finished : (answer ≡ Finished) ↔ AllDecided after.setup after.events
  pub founded : IsFoundedWork before.setup.plan answer

-- events were added that seat k may make
pub record Grew (k : ℕ) (before after : History) : Type 0 where
  pub added : List Event
  pub after_is : after ≡ with_events before added
  pub own : All (MayMake k) added

-- the scheduler after a call of seat k, beside the makers and the published rows from before it
pub record IsUnsigned (k : ℕ) (after : History) (makers : List ℕ) (rows : List Counts) : Type 0 where
  pub before : History
  pub grew : Grew k before after
  pub paired : length makers ≡ length before.events
  pub by_makers : AreByMakers (signed makers before.events)
  pub counted : AreCounted before.setup before.events rows
