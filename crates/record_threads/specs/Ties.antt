-- What the note of a call tells of the key and the payload that were given.
use Rattle.std.specs.Prelude.{◌≡◌, ◌≢◌, ℕ, ◌+◌, ◌≤◌, ⊤, List, [], length}
use Rattle.foz_words.specs.declared.key.Key.{Key}
use Rattle.foz_entry.specs.declared.cut.Entry.{Entry}
use Rattle.foz_entry.specs.Entries.{end_of}
use Rattle.foz_entry.specs.Limits.{head_len, payload_limit, end_limit}
use Rattle.record_words.specs.declared.note.FullNote.{FullNote}
use Rattle.record_words.specs.declared.note.RecordCall.TheVariants.{Flush}
use Rattle.record_words.specs.declared.note.RecordReply.{RecordReply}
use Rattle.record_words.specs.declared.note.RecordReply.TheVariants.{New, Known, Collision, TooLarge, Full, TooMany}
use Rattle.record_words.specs.declared.state.RecorderState.{RecorderState}
use Rattle.record_words.specs.Recorder.{FlushReply}
use Rattle.record_words.specs.Story.{Records}

-- How a reply on these entries, and the payload that is held at its index, are tied to the payload that was given.
abbrev pub IsTiedBy : RecordReply → List Entry → List ℕ → List ℕ → Type 0
IsTiedBy (New i) entries given held = held ≡ given
IsTiedBy (Known i) entries given held = held ≡ given
IsTiedBy (Collision i) entries given held = (held ≢ given) × (length given ≤ payload_limit)
IsTiedBy (TooLarge size) entries given held = size ≡ length given
IsTiedBy (Full end need) entries given held = need ≡ head_len + length given
IsTiedBy (TooMany count) entries given held = (length given ≤ payload_limit) × (end_of entries + (head_len + length given) ≤ end_limit)
IsTiedBy reply entries given held = ⊤

abbrev pub IsTied : List Entry → List ℕ → FullNote → Type 0
IsTied entries given n = IsTiedBy n.note.reply entries given n.payload

-- The note is that of a call that records this key and payload, with this reply, in this state.
pub record IsRecordNote (key : Key) (given : List ℕ) (reply : RecordReply) (s : RecorderState) (n : FullNote) : Type 0 where
  pub reply_is : n.note.reply ≡ reply
  pub records : Records s key given n
  pub tied : IsTied s.entries given n

-- The note is that of a flush with this reply, in this state.
pub record IsFlushNote (reply : RecordReply) (s : RecorderState) (n : FullNote) : Type 0 where
  pub reply_is : n.note.reply ≡ reply
  pub call : n.note.call ≡ Flush
  pub flushes : FlushReply s reply
  pub payload : n.payload ≡ []
