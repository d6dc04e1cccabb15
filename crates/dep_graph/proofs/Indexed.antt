-- What an undamaged entry adds, and what is known of an entry's damage.
use Rattle.std.proofs.Common.{◌≡◌, ℕ, Bool, true, false, ◌&&◌, List, [], ◌∷◌, ◌++◌, length, Option, Some, None, is_some, sym, ap, ◌∙◌}
use Rattle.std.specs.Option.{is_none}
use Rattle.foz_words.specs.Key.{is_key}
use Rattle.foz_words.specs.declared.key.Key.{Key}
use Rattle.foz_words.specs.contracts.key.KeyPartialEq.TheImpl as KeyPartialEq
use Rattle.foz_entry.specs.declared.cut.Entry.{Entry}
use Rattle.foz_entry.specs.declared.damage.EntryCause.{EntryCause}
use Rattle.foz_entry.specs.Damage.{damage}
use Rattle.indexmap.specs.IndexMap.{IndexMap, get}
use Rattle.foz_entry.specs.Entries.{is_undamaged}
use Rattle.record_words.specs.Entries.{holder}
use Rattle.record_words.specs.Index.{IsIndexOf}
use Rattle.record_words.proofs.Holders.{none_held}
use Rattle.record_words.proofs.Rows.{holder_push, first_or}

pub sound_push : (before : List Entry) (entry : Entry) (key : Key) → is_undamaged entry ≡ true → holder key (before ++ entry ∷ []) ≡ first_or (holder key before) (is_key key entry.head.key) (length before)
sound_push before entry key sound = holder_push key before entry ∙ ap (λ (z : Bool). first_or (holder key before) (z && is_key key entry.head.key) (length before)) sound

pub passed : (entry : Entry) (found : Option EntryCause) → found ≡ damage entry.head entry.payload → found ≡ None → is_undamaged entry ≡ true
unfolding is_undamaged
passed entry found told e = ap is_none (sym told ∙ e)

pub damaged_is : (entry : Entry) (cause : EntryCause) → damage entry.head entry.payload ≡ Some cause → is_undamaged entry ≡ false
unfolding is_undamaged
damaged_is entry cause e = ap is_none e

pub none_indexed : {S : Type 0} (index : IndexMap Key ℕ S) → index.entries ≡ [] → IsIndexOf (get KeyPartialEq.ghosts.eq index) []
none_indexed index e key = rw e (sym (none_held key))

-- a look-up that finds something
pub is_found : (o : Option ℕ) (place : ℕ) → Some place ≡ o → is_some o ≡ true
is_found o place e = sym (ap is_some e)
