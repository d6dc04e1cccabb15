-- The command `record`. It is given the words of why a line can't be read, and how lines are read of an input.
use Rattle.std.specs.Prelude.{◌≡◌, ℕ, Bool, false, if◌then◌else◌, List}
use Rattle.std.specs.List.{list_any}
use Rattle.disk_model.specs.Faults.{Rose}
use Rattle.foz_entry.specs.declared.cut.Entry.{Entry}
use Rattle.foz_archive.specs.Reading.{Holds}
use Rattle.record_words.specs.declared.answered.Answered.{Answered}
use Rattle.record_words.specs.declared.answered.LineAnswer.{LineAnswer}
use Rattle.record_words.specs.declared.answered.LineAnswer.TheVariants.{Refused, Replied}
use Rattle.record_words.specs.Recorded.{Line, Answer, Recorded}
use Rattle.record_words.specs.Answered.{answered_from}
use Rattle.record_words.specs.Replies.{is_full}
use Rattle.record_words.specs.Story.{AreApart}
use Rattle.record_lines.specs.Capture.{CaptureLeaves}
use Rattle.foz_text.specs.RecordText.{record_text, is_refused}
use Rattle.foz_base.specs.Ending.{Ended}
use Rattle.foz_base.specs.FileWork.{bytes_of, IsArchiveFile, FileLeaves}
use Rattle.foz_base.specs.Outside.{File, Outside, Tells, FileFaultRose, IsSettledFile}
use Rattle.foz_base.specs.InputRead.{IsInputRead}
use Rattle.foz_base.specs.Recording.{IsFlushed, StopsRecording}

module _ {Cause : Type 0} where
  abbrev pub answer_lacks_room : LineAnswer Cause → Bool
  answer_lacks_room (Refused cause) = false
  answer_lacks_room (Replied key reply) = is_full reply

  -- the line's state has no room in the archive
  abbrev pub lacks_room : Answered Cause → Bool
  lacks_room answered = answer_lacks_room answered.answer

  -- 8 where a line has no room, else 1 where a line is neither new nor known, else 0
  abbrev pub status_of_answers : List (Answered Cause) → ℕ
  status_of_answers answers = if list_any lacks_room answers then 8 else (if list_any is_refused answers then 1 else 0)

  -- the text of lines with these answers, after which the archive has so many entries
  abbrev pub text_of_lines : (Cause → List ℕ) → List (Line Cause) → List (Answer Cause) → ℕ → List ℕ
  text_of_lines cause_text lines answers entries = record_text cause_text (answered_from 1 lines answers) entries

  module _ (cause_text : Cause → List ℕ) (lines_of : List ℕ → List (Line Cause)) where
    -- The lines of all of the input were recorded by so many threads after the entries that the file held, and flushed. Each
    -- key was added once, and none that was held.
    pub record IsRecordTold (input rest : List ℕ) (threads : ℕ) (before after : File) (text : List ℕ) (status : ℕ) : Type 0 where
      pub read : IsInputRead input rest input
      pub entries : List Entry
      pub held : Holds (bytes_of before) entries
      pub later : List Entry
      pub recorded : Recorded (text_of_lines cause_text) entries (lines_of input) threads later text
      pub apart : AreApart entries later
      pub archive : IsArchiveFile after later
      pub status_is : status ≡ status_of_answers (answered_from 1 (lines_of input) recorded.answers)

    -- `record` of the input into this file by so many threads ended with this status. A crash at each moment leaves the entries
    -- that the file held, with a prefix of what the lines add.
    pub record Records (tells : Tells) {M : Type 0} (before after : Outside M) (file : List ℕ) (threads status : ℕ) : Type 0 where
      pub ended : tells.input → tells.output → tells.content → let old = before.files.content file in let new = after.files.content file in
          Ended (IsRecordTold before.input after.input threads old new)
          (StopsRecording before.input after.input (Rose before.input_faults after.input_faults) old new (FileFaultRose before.files after.files file)) before after status
      pub leaves : tells.input → tells.images
          → FileLeaves (λ content old new. CaptureLeaves content old new (lines_of before.input) threads) (before.files.content file) (before.files.history file) (after.files.history file)
      pub durable : tells.images → IsFlushed status → IsSettledFile (after.files.history file)
