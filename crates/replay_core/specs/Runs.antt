-- The machine: which event may come after which, and what a list of events says of slots and items.
use Rattle.std.specs.Prelude.{ℕ, ◌≡◌, ◌≢◌, ◌+◌, ◌<◌, ◌==◌, ◌&&◌, ◌⊎◌, Bool, false, if◌then◌else◌, List, [], ◌∷◌, ◌++◌, Option, Some, None, slice_get, take, map, All, IsSomeAnd}
use Rattle.std.specs.List.{fold, range_with_len}
use Rattle.std.specs.Option.{option_to_list}
use Rattle.replay_core.specs.declared.plan.Plan.{Plan}
use Rattle.replay_core.specs.declared.plan.Dep.{Dep}
use Rattle.replay_core.specs.declared.plan.Dep.TheVariants.{Item, Absent}
use Rattle.replay_core.specs.declared.event.Event.{Event}
use Rattle.replay_core.specs.declared.event.Event.TheVariants.{Start, Reply, Death, Restart, Retire, Miss}
use Rattle.replay_core.specs.declared.event.Verdict.{Verdict}
use Rattle.replay_core.specs.declared.event.Verdict.TheVariants.{Done, Blamed, Missing}
use Rattle.replay_core.specs.declared.event.SlotState.{SlotState}
use Rattle.replay_core.specs.declared.event.SlotState.TheVariants.{Idle, Holds, Dead, Retired}
use Rattle.replay_core.specs.Plans.{items_of, deps_of, Founded}

-- what a replay is given: an item is blamed at as many deaths as `deaths` says
pub record Setup : Type 0 where
  pub plan : Plan
  pub slots : ℕ
  pub deaths : ℕ

-- the setup of a replay that blames an item at its first death
abbrev pub setup_of : Plan → ℕ → Setup
setup_of plan slots = record { plan = plan; slots = slots; deaths = 1 }

-- the event names the slot
abbrev pub names : ℕ → Event → Bool
names w (Start slot item) = slot == w
names w (Reply slot item code) = slot == w
names w (Death slot) = slot == w
names w (Restart slot) = slot == w
names w (Retire slot) = slot == w
names w (Miss item place) = false

-- what the slot that it names does after an event
abbrev pub state_after : Event → SlotState
state_after (Start slot item) = Holds item
state_after (Reply slot item code) = Idle
state_after (Death slot) = Dead
state_after (Restart slot) = Idle
state_after (Retire slot) = Retired
state_after (Miss item place) = Idle

-- what slot w does after one more event
abbrev pub next_state : ℕ → SlotState → Event → SlotState
next_state w state e = if names w e then state_after e else state

-- what slot w does: the last event that names it says so, and at first it is idle
unfoldable pub slot_at : List Event → ℕ → SlotState
slot_at es w = fold (next_state w) Idle es

abbrev pub is_holding : SlotState → ℕ → Bool
is_holding Idle i = false
is_holding (Holds item) i = item == i
is_holding Dead i = false
is_holding Retired i = false

-- the event is the death of a slot that held item i
abbrev pub is_death_over : List Event → Event → ℕ → Bool
is_death_over before (Start slot item) i = false
is_death_over before (Reply slot item code) i = false
is_death_over before (Death slot) i = is_holding (slot_at before slot) i
is_death_over before (Restart slot) i = false
is_death_over before (Retire slot) i = false
is_death_over before (Miss item place) i = false

-- how often item i was in the hands of a slot that died, in events after those before them
unfoldable pub deaths_after : List Event → List Event → ℕ → ℕ
deaths_after before [] i = 0
deaths_after before (e ∷ es) i = (if is_death_over before e i then 1 else 0) + deaths_after (before ++ e ∷ []) es i

-- how often item i was in the hands of a slot that died
unfoldable pub deaths_of : List Event → ℕ → ℕ
deaths_of es i = deaths_after [] es i

-- the verdict that event e gives item i, after the events before it
abbrev pub verdict_by : Setup → List Event → Event → ℕ → Option Verdict
verdict_by s before (Start slot item) i = None
verdict_by s before (Reply slot item code) i = if item == i then Some (Done code) else None
verdict_by s before (Death slot) i = if is_holding (slot_at before slot) i && (deaths_of before i + 1 == s.deaths) then Some Blamed else None
verdict_by s before (Restart slot) i = None
verdict_by s before (Retire slot) i = None
verdict_by s before (Miss item place) i = if item == i then Some (Missing place) else None

-- the verdicts that events give item i, after the events before them
unfoldable pub verdicts_after : Setup → List Event → List Event → ℕ → List Verdict
verdicts_after s before [] i = []
verdicts_after s before (e ∷ es) i = option_to_list (verdict_by s before e i) ++ verdicts_after s (before ++ e ∷ []) es i

-- the verdicts of item i
unfoldable pub verdicts_of : Setup → List Event → ℕ → List Verdict
verdicts_of s es i = verdicts_after s [] es i

-- the verdict of item i; none where it is undecided
unfoldable pub verdict_of : Setup → List Event → ℕ → Option Verdict
verdict_of s es i = slice_get (verdicts_of s es i) 0

-- the verdict of each item of the plan, in order
unfoldable pub verdict_list : Setup → List Event → List (Option Verdict)
verdict_list s es = map (verdict_of s es) (range_with_len 0 (items_of s.plan))

-- every item of the plan is decided: a normal end
abbrev pub AllDecided : Setup → List Event → Type 0
AllDecided s es = (i : ℕ) → i < items_of s.plan → verdict_of s es i ≢ None

abbrev pub InNoHands : List Event → ℕ → Type 0
InNoHands es i = (w : ℕ) → slot_at es w ≢ Holds i

-- the item waits: it has no verdict, and no slot holds it
pub record IsWaiting (s : Setup) (es : List Event) (i : ℕ) : Type 0 where
  pub in_plan : i < items_of s.plan
  pub undecided : verdict_of s es i ≡ None
  pub in_no_hands : InNoHands es i

-- the dependency is an item that succeeded
abbrev pub IsMet : Setup → List Event → Dep → Type 0
IsMet s es (Item j) = verdict_of s es j ≡ Some (Done 0)
IsMet s es (Absent key) = ⊥

-- the dependency cannot succeed any more
abbrev pub IsLost : Setup → List Event → Dep → Type 0
IsLost s es (Item j) = (Founded s.plan j → ⊥) ⊎ (IsSomeAnd (verdict_of s es j) (λ v. v ≢ Done 0))
IsLost s es (Absent key) = Unit {0}

pub record MayStart (s : Setup) (es : List Event) (w i : ℕ) : Type 0 where
  pub slot : w < s.slots
  pub idle : slot_at es w ≡ Idle
  pub waiting : IsWaiting s es i
  pub met : All (IsMet s es) (deps_of s.plan i)

-- the first dependency that is not met is the one at p, and it is lost
pub record MayMiss (s : Setup) (es : List Event) (i p : ℕ) : Type 0 where
  pub waiting : IsWaiting s es i
  pub met : All (IsMet s es) (take p (deps_of s.plan i))
  pub lost : IsSomeAnd (slice_get (deps_of s.plan i) p) (IsLost s es)

-- event e may come after the events es
abbrev pub Allowed : Setup → List Event → Event → Type 0
Allowed s es (Start w i) = MayStart s es w i
Allowed s es (Reply w i code) = (w < s.slots) × (slot_at es w ≡ Holds i)
Allowed s es (Death w) = (w < s.slots) × ((i : ℕ) × (slot_at es w ≡ Holds i))
Allowed s es (Restart w) = (w < s.slots) × (slot_at es w ≡ Dead)
Allowed s es (Retire w) = (w < s.slots) × ((slot_at es w ≡ Dead) ⊎ (slot_at es w ≡ Idle))
Allowed s es (Miss i p) = MayMiss s es i p

-- each of the events es is allowed after those before it, of which `before` come first
unfoldable pub GoesOn : Setup → List Event → List Event → Type 0
GoesOn s before [] = Unit {0}
GoesOn s before (e ∷ es) = Allowed s before e × GoesOn s (before ++ e ∷ []) es

abbrev pub IsRun : Setup → List Event → Type 0
IsRun s es = GoesOn s [] es

abbrev pub NoStart : Setup → List Event → ℕ → Type 0
NoStart s es w = (i : ℕ) → Allowed s es (Start w i) → ⊥

abbrev pub NoMiss : Setup → List Event → Type 0
NoMiss s es = (i p : ℕ) → Allowed s es (Miss i p) → ⊥

-- some slot holds an item
abbrev pub SomeHeld : List Event → Type 0
SomeHeld es = (w : ℕ) × ((i : ℕ) × (slot_at es w ≡ Holds i))
