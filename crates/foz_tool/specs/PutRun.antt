-- The command `put`.
use Rattle.std.specs.Prelude.{◌≡◌, ◌⊎◌, ℕ, false, List}
use Rattle.disk_model.specs.Disk.{History, GoesOn, MightHaveLeft}
use Rattle.disk_model.specs.Faults.{Rose}
use Rattle.foz_words.specs.declared.key.Key.{Key}
use Rattle.foz_entry.specs.declared.cut.Entry.{Entry}
use Rattle.foz_archive.specs.Reading.{Holds}
use Rattle.record_words.specs.declared.note.RecordReply.{RecordReply}
use Rattle.record_words.specs.declared.note.RecordReply.TheVariants as replies
use Rattle.record_words.specs.Recorder.{reply_of}
use Rattle.record_words.specs.Replies.{is_full}
use Rattle.record_words.specs.Alone.{after_record}
use Rattle.foz_text.specs.PutText.{put_text}
use Rattle.foz_base.specs.declared.stop.Stop.{Stop}
use Rattle.foz_base.specs.declared.stop.Stop.TheVariants as stop
use Rattle.foz_base.specs.Ending.{Ended}
use Rattle.foz_base.specs.FileWork.{bytes_of, IsArchiveFile, FileLeaves}
use Rattle.foz_base.specs.Outside.{File, Outside, Tells, FileFaultRose, IsSettledFile}
use Rattle.foz_base.specs.InputRead.{IsInputRead}
use Rattle.foz_base.specs.Recording.{IsFlushed, StopsRecording}

-- the status of a reply
abbrev pub status_of_reply : RecordReply → ℕ
status_of_reply (replies.New index) = 0
status_of_reply (replies.Known index) = 0
status_of_reply (replies.Full end need) = 8
status_of_reply (replies.TooMany count) = 8
status_of_reply reply = 1

-- why a reply has no line: it says that the archive is full
abbrev pub IsUntold : RecordReply → Stop → Type 0
IsUntold reply (stop.Full end need) = reply ≡ replies.Full end need
IsUntold reply (stop.TooMany count) = reply ≡ replies.TooMany count
IsUntold reply stop.Memory = Unit {0}
IsUntold reply stop = ⊥

-- What a crash may leave: the entries that the content held, or those that they become by this record, which are the same
-- where the key is held or has no room.
pub record LeavesRecord (key : Key) (payload before : List ℕ) (old new : History) : Type 0 where
  pub goes_on : GoesOn old new
  pub each : (entries : List Entry) → Holds before entries → (bytes : List ℕ) → MightHaveLeft new old.moment bytes → Holds bytes entries ⊎ Holds bytes (after_record entries key payload)

-- All of the input was recorded under the key after the entries that the file held, and flushed, with this reply.
pub record IsPut (input rest : List ℕ) (before after : File) (key : Key) (reply : RecordReply) : Type 0 where
  pub read : IsInputRead input rest input
  pub entries : List Entry
  pub held : Holds (bytes_of before) entries
  pub reply_is : reply ≡ reply_of entries key input
  pub archive : IsArchiveFile after (after_record entries key input)

-- the line of the reply, which doesn't say that the archive is full
pub record IsPutTold (input rest : List ℕ) (before after : File) (key : Key) (text : List ℕ) (status : ℕ) : Type 0 where
  pub reply : RecordReply
  pub put : IsPut input rest before after key reply
  pub has_room : is_full reply ≡ false
  pub text_is : text ≡ put_text reply
  pub status_is : status ≡ status_of_reply reply

-- why `put` stops: the archive may have no room, too
abbrev pub StopsPut : (input rest : List ℕ) (read : Type 0) (before after : File) (disk : Type 0) → Key → Stop → Type 0
StopsPut input rest read before after disk key (stop.Full end need) = IsPut input rest before after key (replies.Full end need)
StopsPut input rest read before after disk key (stop.TooMany count) = IsPut input rest before after key (replies.TooMany count)
StopsPut input rest read before after disk key stop = StopsRecording input rest read before after disk stop

-- `put` of the input under this key into this file ended with this status
pub record Puts (tells : Tells) {M : Type 0} (before after : Outside M) (file : List ℕ) (key : Key) (status : ℕ) : Type 0 where
  pub ended : tells.input → tells.output → tells.content → let old = before.files.content file in let new = after.files.content file in
      Ended (IsPutTold before.input after.input old new key)
      (StopsPut before.input after.input (Rose before.input_faults after.input_faults) old new (FileFaultRose before.files after.files file) key) before after status
  pub leaves : tells.input → tells.images → FileLeaves (LeavesRecord key before.input) (before.files.content file) (before.files.history file) (after.files.history file)
  pub durable : tells.images → IsFlushed status → IsSettledFile (after.files.history file)
