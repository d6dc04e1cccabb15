-- What a worker must have created before it is asked for an item.
use Rattle.std.specs.Prelude.{ℕ, ◌≡◌, ◌<◌, Bool, true, false, if◌then◌else◌, ◌==◌, List, [], ◌∷◌, All, Some, length, replicate, slice_get, slice_index_or, slice_set}
use Rattle.replay_core.specs.declared.plan.Plan.{Plan}
use Rattle.replay_core.specs.declared.plan.Dep.{Dep}
use Rattle.replay_core.specs.declared.plan.Dep.TheVariants.{Item, Absent}
use Rattle.replay_core.specs.Plans.{items_of, deps_of}

-- item j is a dependency of item i
abbrev pub Needs : Plan → ℕ → ℕ → Type 0
Needs plan i j = (place : ℕ) × (slice_get (deps_of plan i) place ≡ Some (Item j))

-- item i depends on item j, directly or further down
pub data DependsOn (plan : Plan) (i : ℕ) : ℕ → Type 0 where
  directly : (j : ℕ) → Needs plan i j → DependsOn plan i j
  further : (j k : ℕ) → DependsOn plan i j → Needs plan j k → DependsOn plan i k

-- there is one mark for each item: whether the worker has created it
abbrev pub is_created : List Bool → ℕ → Bool
is_created created i = slice_index_or created i false

abbrev pub none_created : Plan → List Bool
none_created plan = replicate (items_of plan) false

-- the dependency is an item that the worker has created
abbrev pub IsCreatedDep : List Bool → Dep → Type 0
IsCreatedDep created (Item j) = is_created created j ≡ true
IsCreatedDep created (Absent key) = ⊥

-- the worker has created all dependencies of item i
abbrev pub HasDepsCreated : Plan → List Bool → ℕ → Type 0
HasDepsCreated plan created i = All (IsCreatedDep created) (deps_of plan i)

-- whatever the worker has created, it has created the dependencies of that
abbrev pub IsClosedDown : Plan → List Bool → Type 0
IsClosedDown plan created = (i : ℕ) → is_created created i ≡ true → HasDepsCreated plan created i

-- with these items created too
unfoldable pub creating : List Bool → List ℕ → List Bool
creating created [] = created
creating created (j ∷ js) = creating (slice_set created j true) js

-- item j is new to the worker, and all its dependencies are created
pub record IsNext (plan : Plan) (created : List Bool) (j : ℕ) : Type 0 where
  pub inside : j < length created
  pub new : is_created created j ≡ false
  pub ready : HasDepsCreated plan created j

-- each item is new, none stands before one that it depends on, and none twice
unfoldable pub AreInOrder : Plan → List Bool → List ℕ → Type 0
AreInOrder plan created [] = Unit {0}
AreInOrder plan created (j ∷ js) = IsNext plan created j × AreInOrder plan (slice_set created j true) js

-- some of the items that a worker loads before item i, in order
pub record AreSomeLoads (plan : Plan) (created : List Bool) (i : ℕ) (loads : List ℕ) : Type 0 where
  pub below : All (DependsOn plan i) loads
  pub in_order : AreInOrder plan created loads

-- the items that a worker loads before item i: those that i depends on and that are not created, each once, none before one that it depends on
pub record AreLoads (plan : Plan) (created : List Bool) (i : ℕ) (loads : List ℕ) : Type 0 where
  pub some_loads : AreSomeLoads plan created i loads
  pub complete : (j : ℕ) → DependsOn plan i j → is_created (creating created loads) j ≡ true

-- what is created once these loads were sent and item i was answered with the code
abbrev pub created_after : List Bool → List ℕ → ℕ → ℕ → List Bool
created_after created loads i code = if (code == 0) then slice_set (creating created loads) i true else creating created loads
