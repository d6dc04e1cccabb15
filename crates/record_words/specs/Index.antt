-- Keys that are looked up among entries.
use Rattle.std.specs.Prelude.{◌≡◌, ℕ, Bool, true, if◌then◌else◌, List, Option, None, is_some}
use Rattle.foz_words.specs.declared.key.Key.{Key}
use Rattle.foz_words.specs.Key.{is_key}
use Rattle.foz_entry.specs.declared.cut.Entry.{Entry}
use Rattle.foz_entry.specs.Entries.{is_undamaged}
use Rattle.record_words.specs.Entries.{holder}

-- the look-up gives each key its holder
abbrev pub IsIndexOf : (Key → Option ℕ) → List Entry → Type 0
IsIndexOf look_up entries = (key : Key) → look_up key ≡ holder key entries

-- these are the keys that an undamaged entry has
abbrev pub AreKeysHeld : (Key → Bool) → List Entry → Type 0
AreKeysHeld is_among entries = (key : Key) → is_among key ≡ is_some (holder key entries)

-- what is looked up, once a value was put under a key
abbrev pub Puts : {V : Type 0} → (Key → V) → (Key → V) → Key → V → Type 0
Puts before after key value = (other : Key) → after other ≡ (if is_key key other then value else before other)

-- The entry is undamaged, and no undamaged entry before it has its key.
pub record IsFirstOfKey (before : List Entry) (entry : Entry) : Type 0 where
  pub sound : is_undamaged entry ≡ true
  pub first : holder entry.head.key before ≡ None
