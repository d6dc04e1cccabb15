-- What recording a list of elements in order adds.
use Rattle.std.specs.Prelude.{ℕ, ◌||◌, Bool, false, if◌then◌else◌, is_some, ⊤, List, [], ◌∷◌, ◌++◌}
use Rattle.foz_words.specs.declared.key.Key.{Key}
use Rattle.foz_words.specs.Key.{is_key}
use Rattle.foz_entry.specs.declared.cut.Entry.{Entry}
use Rattle.foz_entry.specs.Entries.{end_of, entry_of}
use Rattle.record_words.specs.declared.note.RecordReply.{RecordReply}
use Rattle.record_words.specs.declared.note.RecordReply.TheVariants.{New, Known, Collision}
use Rattle.record_words.specs.Entries.{holder}
use Rattle.record_words.specs.Recorder.{reply_of}
use Rattle.record_words.specs.Alone.{after_record}

-- a key with a payload
abbrev pub Element : Type 0
Element = Key × List ℕ

-- the entries after the elements are recorded in order
abbrev pub added_to : List Entry → List Element → List Entry
added_to entries [] = entries
added_to entries (e ∷ es) = added_to (after_record entries e.0 e.1) es

abbrev pub is_among : Key → List Key → Bool
is_among key [] = false
is_among key (k ∷ ks) = is_key key k || is_among key ks

-- the elements, in order, whose key has no holder before and is that of no earlier element
abbrev pub fresh_after : List Entry → List Key → List Element → List Element
fresh_after before earlier [] = []
fresh_after before earlier (e ∷ es) = if is_some (holder e.0 before) || is_among e.0 earlier then fresh_after before (e.0 ∷ earlier) es else e ∷ fresh_after before (e.0 ∷ earlier) es

abbrev pub fresh : List Entry → List Element → List Element
fresh before elements = fresh_after before [] elements

-- the entries with those of the elements after them
abbrev pub laid : List Entry → List Element → List Entry
laid entries [] = entries
laid entries (e ∷ es) = laid (entries ++ entry_of (end_of entries) e.0 e.1 ∷ []) es

-- the entry stands in the archive, this one or another
abbrev pub Stays : RecordReply → Type 0
Stays (New i) = ⊤
Stays (Known i) = ⊤
Stays (Collision i) = ⊤
Stays reply = ⊥

-- none of the elements is too large, and the archive is never full
abbrev pub AllStay : List Entry → List Element → Type 0
AllStay entries [] = ⊤
AllStay entries (e ∷ es) = Stays (reply_of entries e.0 e.1) × AllStay (after_record entries e.0 e.1) es
