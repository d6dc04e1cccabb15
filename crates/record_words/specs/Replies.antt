-- What a reply says of its payload.
use Rattle.std.specs.Prelude.{Bool, true, false}
use Rattle.record_words.specs.declared.note.RecordReply.{RecordReply}
use Rattle.record_words.specs.declared.note.RecordReply.TheVariants.{New, Known, Full, TooMany}

-- it was added
abbrev pub is_new : RecordReply → Bool
is_new (New index) = true
is_new reply = false

-- it was there already
abbrev pub is_known : RecordReply → Bool
is_known (Known index) = true
is_known reply = false

-- the archive has no room for it
abbrev pub is_full : RecordReply → Bool
is_full (Full end need) = true
is_full (TooMany count) = true
is_full reply = false
