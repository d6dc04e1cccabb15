-- The items of an archive, and what each of them depends on.
use Rattle.std.specs.Prelude.{◌≡◌, ℕ, List, length, map, position, slice_get, Option, Some, None}
use Rattle.std.specs.List.{items_where_true, range_with_len}
use Rattle.foz_words.specs.Key.{is_key}
use Rattle.foz_words.specs.declared.key.Key.{Key}
use Rattle.foz_entry.specs.declared.cut.Entry.{Entry}
use Rattle.state_words.specs.declared.state.State.{State}
use Rattle.state_words.specs.References.{refs_of}
use Rattle.replay_core.specs.declared.plan.Dep.{Dep}
use Rattle.replay_core.specs.declared.plan.Dep.TheVariants as dep
use Rattle.dep_graph.specs.declared.class.Class.{Class}
use Rattle.dep_graph.specs.Classes.{is_item, HoldsState}

-- the places of the items, in the order of the file
unfoldable pub item_places : List Class → List ℕ
item_places classes = items_where_true (map is_item classes) (range_with_len 0 (length classes))

-- the items themselves
unfoldable pub item_entries : List Entry → List Class → List Entry
item_entries entries classes = items_where_true (map is_item classes) entries

unfoldable pub item_keys : List Entry → List Class → List Key
item_keys entries classes = map (λ entry. entry.head.key) (item_entries entries classes)

-- the item of this number, or none
abbrev pub dep_from : Option ℕ → Key → Dep
dep_from (Some number) key = dep.Item number
dep_from None key = dep.Absent key

-- the item that has this key, where the items have these keys
abbrev pub dep_on : List Key → Key → Dep
dep_on keys key = dep_from (position (is_key key) keys) key

-- no key stands twice: each is first found at its own place
abbrev pub AreDistinct : List Key → Type 0
AreDistinct keys = (i : ℕ) (key : Key) → slice_get keys i ≡ Some key → position (is_key key) keys ≡ Some i

-- The entry's payload means a state, and these are what the state refers to, in the order of its fields.
pub record DependsAs (keys : List Key) (entry : Entry) (deps : List Dep) : Type 0 where
  pub state : State
  pub meant : HoldsState entry state
  pub named : deps ≡ map (dep_on keys) (refs_of state)

-- The payload has the size that the head states, as in every file.
abbrev pub HasItsSize : Entry → Type 0
HasItsSize entry = length entry.payload ≡ entry.head.size
