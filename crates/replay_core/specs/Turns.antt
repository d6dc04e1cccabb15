-- What a slot that asks for work is told, and which events that makes.
use Rattle.std.specs.Prelude.{ℕ, ◌≡◌, ◌<◌, List, [], ◌∷◌, All, None}
use Rattle.replay_core.specs.declared.event.Event.{Event}
use Rattle.replay_core.specs.declared.event.Event.TheVariants.{Start, Reply, Death, Restart, Retire, Miss}
use Rattle.replay_core.specs.declared.event.SlotState.{SlotState}
use Rattle.replay_core.specs.declared.event.SlotState.TheVariants.{Holds, Idle as AtRest}
use Rattle.replay_core.specs.declared.answer.Next.{Next}
use Rattle.replay_core.specs.declared.answer.Next.TheVariants.{Finished, Work, Idle}
use Rattle.replay_core.specs.declared.plan.Plan.{Plan}
use Rattle.replay_core.specs.Plans.{items_of, Founded}
use Rattle.replay_core.specs.Runs.{Setup, verdict_of, Allowed, GoesOn, AllDecided, NoStart, NoMiss, SomeHeld}
use Rattle.replay_core.specs.Histories.{History, with_events}

abbrev pub IsMiss : Event → Type 0
IsMiss (Start slot item) = ⊥
IsMiss (Reply slot item code) = ⊥
IsMiss (Death slot) = ⊥
IsMiss (Restart slot) = ⊥
IsMiss (Retire slot) = ⊥
IsMiss (Miss item place) = Unit {0}

-- misses were added, each allowed after what stands before it
pub record AddsMisses (old new : History) : Type 0 where
  pub misses : List Event
  pub only_misses : All IsMiss misses
  pub allowed : GoesOn old.setup old.events misses
  pub new_is : new ≡ with_events old misses

abbrev pub SomeUndecided : Setup → List Event → Type 0
SomeUndecided s es = (i : ℕ) × (i < items_of s.plan) × (verdict_of s es i ≡ None)

-- what the slot is told after the history h, and the history that this makes
abbrev pub IsAnswer : History → ℕ → Next → History → Type 0
IsAnswer h slot Finished new = AllDecided h.setup h.events × (new ≡ h)
IsAnswer h slot (Work item) new = Allowed h.setup h.events (Start slot item) × (new ≡ with_events h (Start slot item ∷ []))
IsAnswer h slot Idle new = NoStart h.setup h.events slot × SomeUndecided h.setup h.events × SomeHeld h.events × (new ≡ h)

-- every miss that is allowed was made, and then the slot was told
pub record TakesTurn (old : History) (slot : ℕ) (answer : Next) (new : History) : Type 0 where
  pub between : History
  pub misses : AddsMisses old between
  pub no_miss : NoMiss between.setup between.events
  pub told : IsAnswer between slot answer new

-- the work that the slot is told to do is a founded item of the plan
abbrev pub IsFoundedWork : Plan → Next → Type 0
IsFoundedWork plan Finished = Unit {0}
IsFoundedWork plan (Work item) = Founded plan item
IsFoundedWork plan Idle = Unit {0}

-- the event that names the slot where it was told this
abbrev pub started : ℕ → Next → List Event
started slot Finished = []
started slot (Work item) = Start slot item ∷ []
started slot Idle = []

-- what a slot does that was told this
abbrev pub state_told : Next → SlotState
state_told Finished = AtRest
state_told (Work item) = Holds item
state_told Idle = AtRest
