-- The words of why a payload can't be read.
use Rattle.std.specs.Prelude.{ℕ, List, ◌++◌, codes, decimal}
use Rattle.report_words.specs.Words.{field_word}
use Rattle.spirv_varint.specs.declared.error.VarintError.{VarintError}
use Rattle.spirv_varint.specs.declared.error.VarintError.TheVariants as varint
use Rattle.foz_payload.specs.declared.unreadable.Unreadable.{Unreadable}
use Rattle.foz_payload.specs.declared.unreadable.Unreadable.TheVariants as unreadable

-- why varints can't be read
abbrev pub varint_words : VarintError → List ℕ
varint_words (varint.Short at) = codes "varint short " ++ decimal at
varint_words (varint.TooLarge at) = codes "varint large " ++ decimal at
varint_words (varint.Extra at) = codes "varint extra " ++ decimal at
varint_words varint.Memory = codes "memory"

-- Why a payload can't be read. No entry of an archive is told so for its tag or for running out of memory.
abbrev pub unreadable_words : Unreadable → List ℕ
unreadable_words (unreadable.WrongTag tag) = codes "tag " ++ decimal tag
unreadable_words unreadable.NoZeroByte = codes "zero"
unreadable_words (unreadable.Float at) = codes "float " ++ decimal at
unreadable_words unreadable.BadJson = codes "json"
unreadable_words unreadable.NoSuchState = codes "state"
unreadable_words (unreadable.Field path cause) = codes "field " ++ path ++ codes " " ++ field_word cause
unreadable_words (unreadable.CodeSize stated) = codes "code " ++ decimal stated
unreadable_words (unreadable.Window offset size have) = codes "window " ++ decimal offset ++ codes " " ++ decimal size ++ codes " " ++ decimal have
unreadable_words (unreadable.Varint cause) = varint_words cause
unreadable_words unreadable.Memory = codes "memory"
