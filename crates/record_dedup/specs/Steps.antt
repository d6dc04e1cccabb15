-- What the calls of a book do, as steps of a recorder.
use Rattle.std.specs.Prelude.{◌≡◌, ℕ, List, [], Option, Some, None, Result, Ok, Err}
use Rattle.foz_words.specs.declared.key.Key.{Key}
use Rattle.foz_archive.specs.declared.push.PushError.{PushError}
use Rattle.foz_archive.specs.declared.push.PushError.TheVariants as push_errors
use Rattle.record_words.specs.declared.note.RecordCall.TheVariants.{Record, Flush}
use Rattle.record_words.specs.declared.note.RecordReply.{RecordReply}
use Rattle.record_words.specs.declared.note.RecordReply.TheVariants as reply
use Rattle.record_words.specs.declared.state.RecorderState.{RecorderState}
use Rattle.record_words.specs.Recorder.{record_reply, FlushReply, after}
use Rattle.record_dedup.specs.declared.ack.Ack.{Ack}
use Rattle.record_dedup.specs.declared.ack.Ack.TheVariants.{New, Known}
use Rattle.record_dedup.specs.declared.ack.RecordError.{RecordError}
use Rattle.record_dedup.specs.declared.ack.RecordError.TheVariants.{Broken, TooLarge, Collision, Full, TooMany, Memory}
use Rattle.record_dedup.specs.declared.ack.FlushError.{FlushError}
use Rattle.record_dedup.specs.declared.ack.FlushError.TheVariants as flush_errors

-- the recorder's reply that an answer tells, which running out of memory doesn't
abbrev pub reply_told : Result Ack RecordError → Option RecordReply
reply_told (Ok (New i)) = Some (reply.New i)
reply_told (Ok (Known i)) = Some (reply.Known i)
reply_told (Err Broken) = Some reply.Broken
reply_told (Err (TooLarge size)) = Some (reply.TooLarge size)
reply_told (Err (Collision i)) = Some (reply.Collision i)
reply_told (Err (Full end need)) = Some (reply.Full end need)
reply_told (Err (TooMany count)) = Some (reply.TooMany count)
reply_told (Err Memory) = None

abbrev pub flush_told : Result ℕ FlushError → Option RecordReply
flush_told (Ok count) = Some (reply.Flushed count)
flush_told (Err flush_errors.Broken) = Some reply.Broken
flush_told (Err flush_errors.DiskFault) = Some reply.DiskFault
flush_told (Err flush_errors.Memory) = None

abbrev pub record_error_of : PushError → RecordError
record_error_of (push_errors.TooLarge size) = TooLarge size
record_error_of (push_errors.Full end need) = Full end need
record_error_of (push_errors.TooMany count) = TooMany count
record_error_of push_errors.Memory = Memory

-- the size of a payload that no entry may have
abbrev pub too_large : Result (Unit {0}) PushError → Option ℕ
too_large (Err (push_errors.TooLarge size)) = Some size
too_large room = None

-- one step of the recorder, or none where nothing is told
abbrev pub IsStep : RecorderState → Key → List ℕ → Option RecordReply → RecorderState → Type 0
IsStep s key payload None t = t ≡ s
IsStep s key payload (Some told) t = (told ≡ record_reply s key payload) × (t ≡ after s (Record key) told payload)

abbrev pub IsFlushStep : RecorderState → Option RecordReply → RecorderState → Type 0
IsFlushStep s None t = t ≡ s
IsFlushStep s (Some told) t = FlushReply s told × (t ≡ after s Flush told [])
