-- A replay by one slot whose items a driver answers.
use Rattle.std.specs.Prelude.{ℕ, ◌≡◌, List, [], ◌∷◌, ◌++◌, slice_get, Some}
use Rattle.foz_words.specs.declared.key.Key.{Key}
use Rattle.foz_entry.specs.declared.cut.Entry.{Entry}
use Rattle.state_words.specs.declared.state.State.{State}
use Rattle.replay_core.specs.declared.event.Event.{Event}
use Rattle.replay_core.specs.declared.event.Event.TheVariants.{Start, Reply, Miss}
use Rattle.replay_core.specs.Runs.{setup_of, IsRun, AllDecided}
use Rattle.replay_core.specs.Histories.{History}
use Rattle.dep_graph.specs.declared.class.Class.{Class}
use Rattle.dep_graph.specs.declared.graph.Graph.{Graph}
use Rattle.dep_graph.specs.Classes.{HoldsState}
use Rattle.dep_graph.specs.Items.{item_entries}
use Rattle.dep_graph.specs.Graphs.{IsGraphOf}

-- the driver was called for the state of the item's entry, and answered this code
pub record IsAnswered {M : Type 0} (creates : M → Key → State → ℕ → M → Type 0) (before : M) (entries : List Entry) (classes : List Class) (item code : ℕ) (after : M) : Type 0 where
  pub entry : Entry
  pub state : State
  pub stands : slice_get (item_entries entries classes) item ≡ Some entry
  pub means : HoldsState entry state
  pub called : creates before entry.head.key state code after

-- The events, one after the other: each reply is what the driver answers to its item then, and no other event calls it. No
-- worker dies, comes or goes.
pub data Drives {M : Type 0} (creates : M → Key → State → ℕ → M → Type 0) (before : M) (entries : List Entry) (classes : List Class) : List Event → M → Type 0 where
  none : Drives creates before entries classes [] before
  starts : (events : List Event) (between : M) (slot item : ℕ) → Drives creates before entries classes events between
      → Drives creates before entries classes (events ++ Start slot item ∷ []) between
  misses : (events : List Event) (between : M) (item place : ℕ) → Drives creates before entries classes events between
      → Drives creates before entries classes (events ++ Miss item place ∷ []) between
  replies : (events : List Event) (between after : M) (slot item code : ℕ) → Drives creates before entries classes events between
      → IsAnswered creates between entries classes item code after
      → Drives creates before entries classes (events ++ Reply slot item code ∷ []) after

-- a run of the graph's plan on one slot that ends with each item decided, whose replies are the driver's
pub record IsReplay {M : Type 0} (creates : M → Key → State → ℕ → M → Type 0) (before : M) (entries : List Entry) (graph : Graph) (core : History) (after : M) : Type 0 where
  pub setup : core.setup ≡ setup_of graph.plan 1
  pub run : IsRun core.setup core.events
  pub decided : AllDecided core.setup core.events
  pub driven : Drives creates before entries graph.classes core.events after

-- the replay of these entries
pub record IsCheck {M : Type 0} (creates : M → Key → State → ℕ → M → Type 0) (before : M) (entries : List Entry) (graph : Graph) (core : History) (after : M) : Type 0 where
  pub graph_is : IsGraphOf entries graph
  pub replay : IsReplay creates before entries graph core after
