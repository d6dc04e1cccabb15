-- The one lower-case spelling of an undamaged entry.
use Rattle.std.specs.Prelude.{ℕ, ◌+◌, List, ◌++◌, length, replicate}
use Rattle.foz_crc.specs.Crc32.{crc32_of}
use Rattle.foz_words.specs.Bytes.{le32}
use Rattle.foz_words.specs.Hex.{hex_text}
use Rattle.foz_words.specs.declared.key.Key.{Key}
use Rattle.foz_entry.specs.declared.cut.Cut.{Cut}
use Rattle.foz_entry.specs.Limits.{head_len}

-- zeros, the tag in eight digits and the hash in sixteen
unfoldable pub lower_name : Key → List ℕ
lower_name key = replicate 8 48 ++ (hex_text 16 key.tag ++ hex_text 16 key.hash)

-- the head of a stored entry with this checksum and payload size
abbrev pub stored_head : Key → ℕ → ℕ → Cut
stored_head key crc size = record { key = key; format = 1; crc = crc; size = size; uncompressed = size; total = head_len + size }

-- the head of the undamaged entry of a key and a payload
abbrev pub head_of : Key → List ℕ → Cut
head_of key payload = stored_head key (crc32_of payload) (length payload)

abbrev pub head_text : Cut → List ℕ
head_text head = lower_name head.key ++ (le32 head.size ++ (le32 head.format ++ (le32 head.crc ++ le32 head.uncompressed)))

-- the undamaged entry of a key and a payload
abbrev pub entry_text : Key → List ℕ → List ℕ
entry_text key payload = head_text (head_of key payload) ++ payload
