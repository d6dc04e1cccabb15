-- A recorder of one thread: its state, and what each call replies.
use Rattle.std.specs.Prelude.{◌≡◌, ℕ, ◌+◌, ◌<◌, ◌==◌, nat_lt, true, false, if◌then◌else◌, List, [], ◌∷◌, ◌++◌, length, bytes_eq, Option, Some, None}
use Rattle.foz_words.specs.declared.key.Key.{Key}
use Rattle.foz_entry.specs.declared.cut.Entry.{Entry}
use Rattle.foz_entry.specs.Entries.{end_of, entry_of}
use Rattle.foz_entry.specs.Limits.{head_len, payload_limit, end_limit, count_limit}
use Rattle.record_words.specs.declared.state.RecorderState.{RecorderState}
use Rattle.record_words.specs.declared.note.RecordCall.{RecordCall}
use Rattle.record_words.specs.declared.note.RecordCall.TheVariants.{Record, Flush}
use Rattle.record_words.specs.declared.note.RecordReply.{RecordReply}
use Rattle.record_words.specs.declared.note.RecordReply.TheVariants.{New, Known, Collision, TooLarge, Full, TooMany, Flushed, DiskFault, Broken}
use Rattle.record_words.specs.Entries.{holder, payload_at}

-- the reply where no entry holds the key
abbrev pub reply_unheld : List Entry → List ℕ → RecordReply
reply_unheld entries payload =
    if nat_lt end_limit (end_of entries + (head_len + length payload)) then Full (end_of entries) (head_len + length payload)
    else (if length entries == count_limit then TooMany (length entries) else New (length entries))

-- the reply by the key's holder
abbrev pub reply_by : Option ℕ → List Entry → List ℕ → RecordReply
reply_by (Some i) entries payload = if bytes_eq (payload_at entries i) payload then Known i else Collision i
reply_by None entries payload = reply_unheld entries payload

-- the reply to `record` on these entries, where the recorder isn't broken
unfoldable pub reply_of : List Entry → Key → List ℕ → RecordReply
reply_of entries key payload =
    if nat_lt payload_limit (length payload) then TooLarge (length payload)
    else reply_by (holder key entries) entries payload

abbrev pub record_reply : RecorderState → Key → List ℕ → RecordReply
record_reply s key payload = if s.broken then Broken else reply_of s.entries key payload

-- the reply to `flush`, which the disk may refuse where entries are pending
abbrev pub FlushReply : RecorderState → RecordReply → Type 0
FlushReply s (Flushed count) = (s.broken ≡ false) × (count ≡ length s.entries)
FlushReply s DiskFault = (s.broken ≡ false) × (s.flushed < length s.entries)
FlushReply s Broken = s.broken ≡ true
FlushReply s reply = ⊥

-- the state after a call with this reply, where New has this payload
abbrev pub after : RecorderState → RecordCall → RecordReply → List ℕ → RecorderState
after s (Record key) (New i) payload = record s { entries = s.entries ++ entry_of (end_of s.entries) key payload ∷ [] }
after s (Record key) reply payload = s
after s Flush (Flushed count) payload = record s { flushed = count }
after s Flush DiskFault payload = record s { broken = true }
after s Flush reply payload = s
