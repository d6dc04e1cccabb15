-- The words of causes.
use Rattle.std.specs.Prelude.{ℕ, List, ◌++◌, codes, decimal}
use Rattle.foz_words.specs.Hex.{hex_text}
use Rattle.foz_entry.specs.declared.damage.EntryCause.{EntryCause}
use Rattle.foz_entry.specs.declared.damage.EntryCause.TheVariants.{Deflate, BadFormat, TooLarge, SizeDiffers, BadChecksum}
use Rattle.json_fold.specs.declared.fault.FieldCause.{FieldCause}
use Rattle.json_fold.specs.declared.fault.FieldCause.TheVariants as field

-- why an entry is damaged
abbrev pub damage_words : EntryCause → List ℕ
damage_words Deflate = codes "deflate"
damage_words (BadFormat n) = codes "format " ++ decimal n
damage_words (TooLarge size) = codes "too large"
damage_words (SizeDiffers a b) = codes "sizes " ++ decimal a ++ codes " " ++ decimal b
damage_words (BadChecksum stated found) = codes "checksum " ++ hex_text 8 stated ++ codes " " ++ hex_text 8 found

-- why a member can't be read
abbrev pub field_word : FieldCause → List ℕ
field_word field.HasPNext = codes "pnext"
field_word field.NotNumber = codes "number"
field_word field.TooLarge = codes "large"
field_word field.NotUnit = codes "unit"
field_word field.NotText = codes "text"
field_word field.NotList = codes "list"
field_word field.NotObject = codes "object"
field_word field.BadLength = codes "length"
field_word field.BadHash = codes "hash"
field_word field.BadBase64 = codes "base64"
