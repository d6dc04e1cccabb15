-- What contracts see of a scheduler: what it was given, and the events so far.
use Rattle.std.specs.Prelude.{ℕ, ◌+◌, ◌*◌, ◌<◌, ◌≤◌, ◌^◌, List, ◌++◌, [], length, All}
use Rattle.replay_core.specs.declared.plan.Plan.{Plan}
use Rattle.replay_core.specs.declared.plan.Dep.{Dep}
use Rattle.replay_core.specs.declared.plan.Dep.TheVariants.{Item, Absent}
use Rattle.replay_core.specs.declared.event.Event.{Event}
use Rattle.replay_core.specs.Plans.{items_of}
use Rattle.replay_core.specs.Runs.{Setup, setup_of}

pub record History : Type 0 where
  pub setup : Setup
  pub events : List Event

-- the history with these events at its end
abbrev pub with_events : History → List Event → History
with_events h added = record { setup = h.setup; events = h.events ++ added }

-- for how many events room is taken: three for each item and one for each slot
abbrev pub room_of : Setup → ℕ
room_of s = 3 * items_of s.plan + s.slots

-- the dependency is absent or one of the items
abbrev pub IsInRange : ℕ → Dep → Type 0
IsInRange n (Item j) = j < n
IsInRange n (Absent key) = Unit {0}

-- a list of dependencies is within the limits, in a plan of n items
pub record IsShortRow (n : ℕ) (ds : List Dep) : Type 0 where
  pub short : length ds < 2 ^ 30
  pub in_range : All (IsInRange n) ds

-- the plan is within the limits
pub record IsPlan (plan : Plan) : Type 0 where
  pub items : items_of plan ≤ 1048576
  pub short : All (λ ds. length ds < 2 ^ 30) plan.deps
  pub in_range : All (All (IsInRange (items_of plan))) plan.deps

-- nothing has happened
abbrev pub at_first : Plan → ℕ → History
at_first plan slots = record { setup = setup_of plan slots; events = [] }
