-- What is known after the first pass over some entries.
use Rattle.std.specs.Prelude.{◌≡◌, ℕ, Bool, true, false, List, map, position, slice_get, Option, Some, None, option_and_then}
use Rattle.std.specs.List.{AllZip}
use Rattle.indexmap.specs.IndexMap.{get}
use Rattle.foz_words.specs.Key.{is_key}
use Rattle.foz_words.specs.declared.key.Key.{Key}
use Rattle.foz_entry.specs.declared.cut.Entry.{Entry}
use Rattle.foz_entry.specs.Entries.{is_undamaged}
use Rattle.record_words.specs.Entries.{holder}
use Rattle.record_words.specs.Index.{IsIndexOf}
use Rattle.state_words.specs.declared.state.State.{State}
use Rattle.state_words.specs.References.{refs_of}
use Rattle.replay_core.specs.declared.plan.Dep.{Dep}
use Rattle.dep_graph.specs.declared.class.Class.{Class}
use Rattle.dep_graph.specs.declared.class.Class.TheVariants as class
use Rattle.dep_graph.specs.declared.survey.Sorted.{Sorted}
use Rattle.dep_graph.specs.declared.survey.Sorted.TheVariants.{Item, Other}
use Rattle.dep_graph.specs.declared.survey.Survey.{Survey}
use Rattle.dep_graph.specs.Classes.{is_item, HasClass, IsCandidate, HoldsState, AreClassesOf}
use Rattle.dep_graph.specs.Items.{item_places, item_entries, item_keys, dep_from, AreDistinct}

-- The entry is undamaged, and its payload means a state that refers to these keys.
pub record RefersTo (entry : Entry) (refs : List Key) : Type 0 where
  pub sound : is_undamaged entry ≡ true
  pub state : State
  pub meant : HoldsState entry state
  pub named : refs ≡ refs_of state

abbrev pub IsSorted : List Entry → Entry → Sorted → Type 0
IsSorted before entry (Item refs) = IsCandidate before entry × RefersTo entry refs
IsSorted before entry (Other class) = ((items : ℕ) → HasClass before items entry class) × (is_item class ≡ false)

-- the number of an item
abbrev pub number_of : Class → Option ℕ
number_of (class.Item number) = Some number
number_of class = None

-- the number of the item at this place
abbrev pub number_in : List Class → ℕ → Option ℕ
number_in classes place = option_and_then number_of (slice_get classes place)

-- the number of the item that holds this key
unfoldable pub number_held : List Entry → List Class → Key → Option ℕ
number_held entries classes key = option_and_then (number_in classes) (holder key entries)

abbrev pub dep_held : List Entry → List Class → Key → Dep
dep_held entries classes key = dep_from (number_held entries classes key) key

abbrev pub deps_held : List Entry → List Class → List Key → List Dep
deps_held entries classes keys = map (dep_held entries classes) keys

pub record IsSurvey (eq : Key → Key → Bool) (survey : Survey) (entries : List Entry) : Type 0 where
  pub index : IsIndexOf (get eq survey.index) entries
  pub classes : AreClassesOf entries survey.classes
  pub items : survey.items ≡ item_places survey.classes
  pub refs : AllZip RefersTo (item_entries entries survey.classes) survey.refs
  pub numbers : (key : Key) → position (is_key key) (item_keys entries survey.classes) ≡ number_held entries survey.classes key
  pub distinct : AreDistinct (item_keys entries survey.classes)
