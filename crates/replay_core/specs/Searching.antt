-- The search for the founded items: which it has marked, and where the others stop.
use Rattle.std.specs.Prelude.{ℕ, ◌≡◌, ◌<◌, All, Bool, true, false, List, slice_get, slice_index_or, Some}
use Rattle.replay_core.specs.declared.worklist.Worklist.{Worklist}
use Rattle.replay_core.specs.declared.plan.Plan.{Plan}
use Rattle.replay_core.specs.declared.plan.Dep.{Dep}
use Rattle.replay_core.specs.Plans.{items_of, deps_of, is_item_of, Founded}
use Rattle.replay_core.specs.Worklists.{IsList}

-- the item is marked
abbrev pub is_marked_in : List Bool → ℕ → Bool
is_marked_in marks i = slice_index_or marks i false

-- the dependency is an item that is marked
abbrev pub is_marked_dep : List Bool → Dep → Bool
is_marked_dep marks d = is_item_of (is_marked_in marks) d

abbrev pub IsMarked : List Bool → Dep → Type 0
IsMarked marks d = is_marked_dep marks d ≡ true

-- an item whose dependencies are marked is marked
abbrev pub IsClosed : Plan → List Bool → Type 0
IsClosed plan marks = (i : ℕ) → i < items_of plan → All (IsMarked marks) (deps_of plan i) → is_marked_in marks i ≡ true

-- each item that is marked is founded
abbrev pub MarkedFounded : Plan → List Bool → Type 0
MarkedFounded plan marks = (k : ℕ) → k < items_of plan → is_marked_in marks k ≡ true → Founded plan k

-- an item of the plan that is not marked
abbrev pub IsUnmarked : Plan → List Bool → ℕ → Type 0
IsUnmarked plan marks i = (i < items_of plan) × (is_marked_in marks i ≡ false)

-- the dependency at the place is no marked item
abbrev pub StopsAt : List Bool → List Dep → ℕ → Type 0
StopsAt marks deps place = (d : Dep) × (slice_get deps place ≡ Some d) × (is_marked_dep marks d ≡ false)

-- the item stops at the place among its dependencies
abbrev pub ItemStops : Plan → List Bool → ℕ → ℕ → Type 0
ItemStops plan marks place i = StopsAt marks (deps_of plan i) place

-- The list's items that were passed on are the marked ones.
pub record IsSearch (plan : Plan) (list : Worklist) : Type 0 where
  pub kept : IsList plan (IsMarked list.passed.items) (IsUnmarked plan list.passed.items) (ItemStops plan list.passed.items) list
  pub founded : MarkedFounded plan list.passed.items

-- the item is marked, or stops at a dependency that is not
abbrev pub WasLookedAt : Plan → Worklist → ℕ → Type 0
WasLookedAt plan list i = is_marked_in list.passed.items i ≡ false → ItemStops plan list.passed.items (slice_index_or list.progress.items i 0) i
