-- What the scheduler keeps beside the events: the state of each slot and the verdict of each item.
use Rattle.std.specs.Prelude.{ℕ, ◌≡◌, ◌≢◌, ◌⊎◌, All, IsSomeAnd, slice_get, take, ◌+◌, ◌*◌, ◌<◌, ◌≤◌, Bool, true, false, List, length, Option, Some, None, is_none, slice_index_or, slice_set, count_by, sum_by}
use Rattle.replay_core.specs.declared.plan.Plan.{Plan}
use Rattle.replay_core.specs.declared.plan.Dep.{Dep}
use Rattle.replay_core.specs.declared.plan.Dep.TheVariants.{Item, Absent}
use Rattle.replay_core.specs.declared.prospect.Prospect.{Prospect}
use Rattle.replay_core.specs.declared.prospect.Prospect.TheVariants.{Ready, Lost, Pending}
use Rattle.replay_core.specs.declared.event.Event.{Event}
use Rattle.replay_core.specs.declared.event.Event.TheVariants.{Start, Reply, Death, Restart, Retire, Miss}
use Rattle.replay_core.specs.declared.event.Verdict.{Verdict}
use Rattle.replay_core.specs.declared.event.Verdict.TheVariants.{Done, Blamed, Missing}
use Rattle.replay_core.specs.declared.event.SlotState.{SlotState}
use Rattle.replay_core.specs.declared.event.SlotState.TheVariants.{Idle, Holds, Dead, Retired}
use Rattle.replay_core.specs.Plans.{items_of, deps_of, Founded}
use Rattle.replay_core.specs.Runs.{Setup, setup_of, state_after, slot_at, verdict_of, IsMet, IsLost, IsRun}
use Rattle.replay_core.specs.Queues.{HangsAt}
use Rattle.replay_core.specs.Histories.{room_of, IsPlan}

-- the slot that an event names
abbrev pub slot_of : Event → Option ℕ
slot_of (Start slot item) = Some slot
slot_of (Reply slot item code) = Some slot
slot_of (Death slot) = Some slot
slot_of (Restart slot) = Some slot
slot_of (Retire slot) = Some slot
slot_of (Miss item place) = None

-- the item that a slot holds is blamed
abbrev pub blame : SlotState → Option (ℕ × Verdict)
blame Idle = None
blame (Holds item) = Some (item, Blamed)
blame Dead = None
blame Retired = None

-- the item that an event decides, and its verdict
abbrev pub judged : List SlotState → Event → Option (ℕ × Verdict)
judged states (Start slot item) = None
judged states (Reply slot item code) = Some (item, Done code)
judged states (Death slot) = blame (slice_index_or states slot Idle)
judged states (Restart slot) = None
judged states (Retire slot) = None
judged states (Miss item place) = Some (item, Missing place)

abbrev pub set_at : {X : Type 0} → List X → Option ℕ → X → List X
set_at xs None x = xs
set_at xs (Some k) x = slice_set xs k x

abbrev pub states_with : List SlotState → Event → List SlotState
states_with states e = set_at states (slot_of e) (state_after e)

abbrev pub decide : List (Option Verdict) → Option (ℕ × Verdict) → List (Option Verdict)
decide verdicts None = verdicts
decide verdicts (Some v) = slice_set verdicts v.0 (Some v.1)

-- how many events a slot in this state may still give without an item
abbrev pub allowance : SlotState → ℕ
allowance Idle = 1
allowance (Holds item) = 0
allowance Dead = 2
allowance Retired = 0

-- the states and verdicts are those of the events, which are a run and leave room for what may come
pub record Keeps (s : Setup) (es : List Event) (states : List SlotState) (verdicts : List (Option Verdict)) : Type 0 where
  pub deaths : s.deaths ≡ 1
  pub run : IsRun s es
  pub slots : length states ≡ s.slots
  pub items : length verdicts ≡ items_of s.plan
  pub each_state : (w : ℕ) → w < s.slots → slice_index_or states w Idle ≡ slot_at es w
  pub each_verdict : (i : ℕ) → i < items_of s.plan → slice_index_or verdicts i None ≡ verdict_of s es i
  pub budget : length es + (3 * count_by is_none verdicts + sum_by allowance states) ≤ room_of s

-- the marks say which items are founded
pub record MarksFounded (plan : Plan) (marks : List Bool) : Type 0 where
  pub items : length marks ≡ items_of plan
  pub marked : (i : ℕ) → i < items_of plan → slice_index_or marks i false ≡ true → Founded plan i
  pub unmarked : (i : ℕ) → i < items_of plan → slice_index_or marks i false ≡ false → Founded plan i → ⊥

-- all that a scheduler keeps fits together
pub record FitsTogether (plan : Plan) (marks : List Bool) (states : List SlotState) (verdicts : List (Option Verdict)) (es : List Event) (capacity : ℕ) : Type 0 where
  pub plan_is : IsPlan plan
  pub some_slot : 0 < length states
  pub few_slots : length states ≤ 16
  pub founded : MarksFounded plan marks
  pub keeps : Keeps (setup_of plan (length states)) es states verdicts
  pub room : room_of (setup_of plan (length states)) ≤ capacity

-- by the verdicts kept, the dependency is an item that succeeded
abbrev pub MetIn : List (Option Verdict) → Dep → Type 0
MetIn verdicts (Item j) = slice_index_or verdicts j None ≡ Some (Done 0)
MetIn verdicts (Absent key) = ⊥

-- by the marks and verdicts kept, a dependency that is not met never will be
abbrev pub LostIn : List Bool → List (Option Verdict) → Dep → Type 0
LostIn marks verdicts (Item j) = (slice_index_or marks j false ≡ false) ⊎ (slice_index_or verdicts j None ≢ None)
LostIn marks verdicts (Absent key) = Unit {0}

-- the first dependency that is not met, and its place
pub record FirstUnmetIn (verdicts : List (Option Verdict)) (deps : List Dep) (place : ℕ) (dep : Dep) : Type 0 where
  pub at_place : slice_get deps place ≡ Some dep
  pub met_before : All (MetIn verdicts) (take place deps)
  pub unmet : MetIn verdicts dep → ⊥

-- what can become of an item with these dependencies
abbrev pub ProspectIn : List Bool → List (Option Verdict) → List Dep → Prospect → Type 0
ProspectIn marks verdicts deps Ready = All (MetIn verdicts) deps
ProspectIn marks verdicts deps (Lost place) = (dep : Dep) × FirstUnmetIn verdicts deps place dep × LostIn marks verdicts dep
ProspectIn marks verdicts deps (Pending place) = (dep : Dep) × FirstUnmetIn verdicts deps place dep × (LostIn marks verdicts dep → ⊥)

-- item i may be missing at place p, as far as its dependencies go
abbrev pub HasMissAt : Setup → List Event → ℕ → ℕ → Type 0
HasMissAt s es i p = All (IsMet s es) (take p (deps_of s.plan i)) × IsSomeAnd (slice_get (deps_of s.plan i) p) (IsLost s es)

-- the prospect of item i after the events es, as far as its dependencies go
abbrev pub IsProspect : Setup → List Event → ℕ → Prospect → Type 0
IsProspect s es i Ready = All (IsMet s es) (deps_of s.plan i) × ((p : ℕ) → HasMissAt s es i p → ⊥)
IsProspect s es i (Lost place) = HasMissAt s es i place × (All (IsMet s es) (deps_of s.plan i) → ⊥)
IsProspect s es i (Pending place) = (place ≤ length (deps_of s.plan i)) × All (IsMet s es) (take place (deps_of s.plan i)) × HangsAt s es place i × (All (IsMet s es) (deps_of s.plan i) → ⊥) × ((p : ℕ) → HasMissAt s es i p → ⊥)
