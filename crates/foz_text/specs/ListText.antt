-- The text of the command `list`.
use Rattle.std.specs.Prelude.{◌≡◌, ℕ, ◌-◌, ◌&&◌, Bool, true, false, if◌then◌else◌, List, [], ◌∷◌, ◌++◌, length, codes, decimal, Option, Some, None, is_none}
use Rattle.std.specs.List.{list_any}
use Rattle.std.specs.HashSet.{HashSet, contains}
use Rattle.foz_words.specs.Hex.{hex_text}
use Rattle.foz_words.specs.declared.key.Key.{Key}
use Rattle.foz_words.specs.Key.{is_key}
use Rattle.foz_entry.specs.declared.cut.Entry.{Entry}
use Rattle.foz_entry.specs.declared.damage.EntryCause.{EntryCause}
use Rattle.foz_entry.specs.Damage.{damage}
use Rattle.report_words.specs.Words.{damage_words}
use Rattle.foz_text.specs.declared.list_text.Soundness.{Soundness}
use Rattle.foz_text.specs.declared.list_text.Soundness.TheVariants.{Sound, Duplicate, Damaged}
use Rattle.foz_archive.specs.declared.scanned.Scanned.{Scanned}

-- an undamaged entry has the key
abbrev pub holds : List Entry → Key → Bool
holds entries key = list_any (λ (entry : Entry). is_key entry.head.key key && is_none (damage entry.head entry.payload)) entries

-- the set has exactly the keys of undamaged entries
abbrev pub AreKeysHeld : {S : Type 0} → (Key → Key → Bool) → HashSet Key S → List Entry → Type 0
AreKeysHeld eq keys entries = (key : Key) → contains eq keys key ≡ holds entries key

-- how an entry stands among those before it: damaged, else the duplicate of an undamaged one, else sound
abbrev pub standing_after : Option EntryCause → Bool → Soundness
standing_after (Some cause) held = Damaged cause
standing_after None held = if held then Duplicate else Sound

abbrev pub standing : List Entry → Entry → Soundness
standing before entry = standing_after (damage entry.head entry.payload) (holds before entry.head.key)

abbrev pub standing_text : Soundness → List ℕ
standing_text Sound = codes "ok"
standing_text Duplicate = codes "duplicate"
standing_text (Damaged cause) = damage_words cause

abbrev pub is_ok_word : Soundness → Bool
is_ok_word Sound = true
is_ok_word Duplicate = false
is_ok_word (Damaged cause) = false

abbrev pub is_sound : List Entry → Entry → Bool
is_sound before entry = is_ok_word (standing before entry)

-- a line: place, tag, hash, size, and how the entry stands
abbrev pub line : List Entry → Entry → List ℕ
line before entry =
    decimal entry.offset ++ codes " " ++ decimal entry.head.key.tag ++ codes " " ++ hex_text 16 entry.head.key.hash ++ codes " " ++ decimal entry.head.size ++ codes " " ++ standing_text (standing before entry) ++ codes "\n"

-- the lines of entries, each read after those before it
abbrev pub lines_after : List Entry → List Entry → List ℕ
lines_after before [] = []
lines_after before (entry ∷ entries) = line before entry ++ lines_after (before ++ entry ∷ []) entries

abbrev pub are_sound_after : List Entry → List Entry → Bool
are_sound_after before [] = true
are_sound_after before (entry ∷ entries) = is_sound before entry && are_sound_after (before ++ entry ∷ []) entries

abbrev pub rest_word : Bool → List ℕ
rest_word clean = if clean then codes "clean" else codes "dropped"

abbrev pub last_line : Scanned → List ℕ
last_line scanned =
    codes "entries " ++ decimal (length scanned.entries) ++ codes " end " ++ decimal scanned.end ++ codes " rest " ++ decimal (scanned.length - scanned.end) ++ codes " " ++ rest_word scanned.clean ++ codes "\n"

-- the text of what is read of a file
unfoldable pub list_text : Scanned → List ℕ
list_text scanned = lines_after [] scanned.entries ++ last_line scanned

-- each line says `ok`
unfoldable pub is_flawless : Scanned → Bool
is_flawless scanned = are_sound_after [] scanned.entries
