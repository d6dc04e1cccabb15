-- Entries of an archive: which are undamaged, where they end, and the one that is made of a key and a payload.
use Rattle.std.specs.Prelude.{ℕ, ◌+◌, Bool, List, length, sum_by}
use Rattle.std.specs.Option.{is_none}
use Rattle.foz_words.specs.declared.key.Key.{Key}
use Rattle.foz_entry.specs.declared.cut.Entry.{Entry}
use Rattle.foz_entry.specs.Damage.{damage}
use Rattle.foz_entry.specs.Limits.{header_len, head_len}
use Rattle.foz_entry.specs.Spelling.{head_of}

-- the entry has no damage
unfoldable pub is_undamaged : Entry → Bool
is_undamaged entry = is_none (damage entry.head entry.payload)

-- where entries in a row after a header end
unfoldable pub end_of : List Entry → ℕ
end_of entries = header_len + sum_by (λ entry. head_len + length entry.payload) entries

-- the undamaged entry of a key and a payload, at a place of the file
abbrev pub entry_of : ℕ → Key → List ℕ → Entry
entry_of offset key payload = record { offset = offset; head = head_of key payload; payload = payload }
