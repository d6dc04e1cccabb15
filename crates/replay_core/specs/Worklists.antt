-- The list of items that are to be looked at. The search for the founded items and the queues of a scheduler both go by it.
use Rattle.std.specs.Prelude.{ℕ, ◌≡◌, ◌++◌, ◌+◌, ◌*◌, ◌^◌, ◌<◌, ◌≤◌, ◌⊎◌, All, Contains, Bool, true, false, List, [], ◌∷◌, length, drop, take, slice_get, slice_index_or, Some, sum_by, map, replicate, vec_capacity, Vec}
use Rattle.std.specs.Global.{Global}
use Rattle.replay_core.specs.declared.worklist.Worklist.{Worklist}
use Rattle.replay_core.specs.declared.plan.Plan.{Plan}
use Rattle.replay_core.specs.declared.plan.Dep.{Dep}
use Rattle.replay_core.specs.declared.plan.Dep.TheVariants.{Item}
use Rattle.replay_core.specs.Plans.{items_of, deps_of}

-- the users of each item
abbrev pub rows_of : Vec (Vec ℕ Global) Global → List (List ℕ)
rows_of users = map (λ v. v.items) users.items

-- the item was added to the users of each item among its dependencies, and to no others
pub record AddsUsers (old new : List (List ℕ)) (deps : List Dep) (item : ℕ) : Type 0 where
  pub same_length : length new ≡ length old
  pub kept : (j i : ℕ) → Contains (slice_index_or old j []) i → Contains (slice_index_or new j []) i
  pub only : (j i : ℕ) → Contains (slice_index_or new j []) i → Contains (slice_index_or old j []) i ⊎ (i ≡ item)
  pub added : (p j : ℕ) → slice_get deps p ≡ Some (Item j) → Contains (slice_index_or new j []) item
  pub few : sum_by length new ≤ sum_by length old + length deps

-- these are the users of each item, as far as they are among the first n items
pub record AreUsers (plan : Plan) (n : ℕ) (users : List (List ℕ)) : Type 0 where
  pub same_length : length users ≡ items_of plan
  pub all : (i p j : ℕ) → i < n → slice_get (deps_of plan i) p ≡ Some (Item j) → Contains (slice_index_or users j []) i
  pub items : (j i : ℕ) → Contains (slice_index_or users j []) i → i < n
  pub few : sum_by length users ≤ n * 2 ^ 30

-- the numbers below n, in order
abbrev pub IsUpTo : ℕ → List ℕ → Type 0
IsUpTo n xs = (length xs ≡ n) × ((i : ℕ) → i < n → slice_index_or xs i 0 ≡ i)

-- how many looks those items will call for that were not passed on
unfoldable pub left_in : List (List ℕ) → List Bool → ℕ
left_in [] passed = 0
left_in (row ∷ rows) [] = 0
left_in (row ∷ rows) (true ∷ passed) = left_in rows passed
left_in (row ∷ rows) (false ∷ passed) = length row + left_in rows passed

-- how many looks there are in all, those that are still to be called for among them
abbrev pub work_of : Worklist → ℕ
work_of list = length list.fresh.items + left_in (rows_of list.users) list.passed.items

-- users: for each item those that depend on it; passed: the items that were passed on, whose users are to be looked at again;
-- progress: for each item how many of its dependencies are known to be met; fresh: the items to look at, of which the first `head` were.
-- An item that waits is still to be looked at, or hangs at the dependency that its progress names.
pub record ListFits (plan : Plan) (Met : Dep → Type 0) (Waits : ℕ → Type 0) (Hangs : ℕ → ℕ → Type 0) (users : List (List ℕ)) (passed : List Bool) (progress fresh : List ℕ) (head : ℕ) : Type 0 where
  pub users_are : AreUsers plan (items_of plan) users
  pub passed_len : length passed ≡ items_of plan
  pub progress_len : length progress ≡ items_of plan
  pub head_inside : head ≤ length fresh
  pub fresh_items : All (λ i. i < items_of plan) fresh
  pub progress_inside : (i : ℕ) → i < items_of plan → slice_index_or progress i 0 ≤ length (deps_of plan i)
  pub progress_met : (i : ℕ) → i < items_of plan → All Met (take (slice_index_or progress i 0) (deps_of plan i))
  pub others_hang : (i : ℕ) → Waits i → Contains (drop head fresh) i ⊎ Hangs (slice_index_or progress i 0) i

-- the list fits, and has room for all that may still come into it
pub record IsList (plan : Plan) (Met : Dep → Type 0) (Waits : ℕ → Type 0) (Hangs : ℕ → ℕ → Type 0) (list : Worklist) : Type 0 where
  pub fit : ListFits plan Met Waits Hangs (rows_of list.users) list.passed.items list.progress.items list.fresh.items list.head
  pub room : work_of list ≤ vec_capacity list.fresh

-- all items are to be looked at, none was, and no item was passed on
pub record IsFirstList (plan : Plan) (list : Worklist) : Type 0 where
  pub users : AreUsers plan (items_of plan) (rows_of list.users)
  pub passed : list.passed.items ≡ replicate (items_of plan) false
  pub progress : list.progress.items ≡ replicate (items_of plan) 0
  pub fresh : IsUpTo (items_of plan) list.fresh.items
  pub head : list.head ≡ 0
  pub room : work_of list ≤ vec_capacity list.fresh

-- what was to be looked at stays in its place
abbrev pub ListGrows : Worklist → Worklist → Type 0
ListGrows old new = (more : List ℕ) × (new.fresh.items ≡ old.fresh.items ++ more)
