-- The class of each entry, the first that fits.
use Rattle.std.specs.Prelude.{◌≡◌, ℕ, ◌<◌, ◌&&◌, nat_le, Bool, true, false, List, length, take, count_by, slice_index_or, Some, Ok, Err}
use Rattle.foz_entry.specs.declared.cut.Entry.{Entry}
use Rattle.foz_entry.specs.Damage.{damage}
use Rattle.foz_entry.specs.Entries.{is_undamaged}
use Rattle.record_words.specs.Entries.{holder}
use Rattle.record_words.specs.Index.{IsFirstOfKey}
use Rattle.state_words.specs.declared.state.State.{State}
use Rattle.foz_payload.specs.Meaning.{Means}
use Rattle.dep_graph.specs.declared.class.Class.{Class}
use Rattle.dep_graph.specs.declared.class.Class.TheVariants.{Damaged, Duplicate, Kept, Unreadable, Item}

-- the tag of a kind of states
abbrev pub is_kind : ℕ → Bool
is_kind tag = nat_le 1 tag && nat_le tag 7

-- The entry is the first of its key, and that is the key of a state.
pub record IsCandidate (before : List Entry) (entry : Entry) : Type 0 where
  pub of_key : IsFirstOfKey before entry
  pub kind : is_kind entry.head.key.tag ≡ true

-- the entry's payload means this state
abbrev pub HoldsState : Entry → State → Type 0
HoldsState entry state = Means entry.head.key entry.payload (Ok state)

-- What class an entry has after these entries, of which so many are items.
abbrev pub HasClass : List Entry → ℕ → Entry → Class → Type 0
HasClass before items entry (Damaged cause) = damage entry.head entry.payload ≡ Some cause
HasClass before items entry (Duplicate place) = (is_undamaged entry ≡ true) × (holder entry.head.key before ≡ Some place)
HasClass before items entry Kept = IsFirstOfKey before entry × (is_kind entry.head.key.tag ≡ false)
HasClass before items entry (Unreadable cause) = IsCandidate before entry × Means entry.head.key entry.payload (Err cause)
HasClass before items entry (Item number) = IsCandidate before entry × ((state : State) × HoldsState entry state) × (number ≡ items)

abbrev pub is_item : Class → Bool
is_item (Item number) = true
is_item class = false

-- Each entry has its class, and items are numbered in the order of the file.
pub record AreClassesOf (entries : List Entry) (classes : List Class) : Type 0 where
  pub long : length classes ≡ length entries
  pub each : (i : ℕ) (entry : Entry) (class : Class) → i < length entries
      → HasClass (take i entries) (count_by is_item (take i classes)) (slice_index_or entries i entry) (slice_index_or classes i class)
