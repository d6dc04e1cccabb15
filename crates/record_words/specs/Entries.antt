-- Entries of an archive, as a recorder sees them.
use Rattle.std.specs.Prelude.{ℕ, ◌&&◌, Bool, List, [], position, slice_get, Option, option_map, unwrap_or}
use Rattle.foz_words.specs.declared.key.Key.{Key}
use Rattle.foz_words.specs.Key.{is_key}
use Rattle.foz_entry.specs.declared.cut.Entry.{Entry}
use Rattle.foz_entry.specs.Entries.{is_undamaged}

-- an undamaged entry with this key
abbrev pub holds_key : Key → Entry → Bool
holds_key key entry = is_undamaged entry && is_key key entry.head.key

-- the place of the first undamaged entry with this key
unfoldable pub holder : Key → List Entry → Option ℕ
holder key entries = position (holds_key key) entries

-- the payload at a place
abbrev pub payload_at : List Entry → ℕ → List ℕ
payload_at entries i = unwrap_or (option_map (λ entry. entry.payload) (slice_get entries i)) []
