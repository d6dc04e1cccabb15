-- What it is that lines were recorded, or some of them.
use Rattle.std.specs.Prelude.{◌≡◌, ℕ, List, ◌++◌}
use Rattle.foz_entry.specs.declared.cut.Entry.{Entry}
use Rattle.record_words.specs.declared.answered.Answered.{Answered}
use Rattle.record_dedup.specs.declared.ack.FlushError.{FlushError}
use Rattle.record_dedup.specs.declared.ack.FlushError.TheVariants as flush_errors
use Rattle.record_lines.specs.declared.recording.RecordStop.{RecordStop}
use Rattle.record_lines.specs.declared.recording.RecordStop.TheVariants.{DiskFault, Memory}
use Rattle.record_words.specs.Recorded.{Line, Answer, AreAnswers}
use Rattle.record_words.specs.Answered.{answered_from}
use Rattle.record_words.specs.Alone.{entries_alone}

abbrev pub stop_of_flush : FlushError → RecordStop
stop_of_flush flush_errors.Broken = DiskFault
stop_of_flush flush_errors.DiskFault = DiskFault
stop_of_flush flush_errors.Memory = Memory

module _ {Cause : Type 0} where
  -- the lines were recorded by so many threads, and these are the answers to those that aren't skipped
  pub record AreRecorded (before : List Entry) (lines : List (Line Cause)) (threads : ℕ) (later : List Entry) (answered : List (Answered Cause)) : Type 0 where
    pub answers : List (Answer Cause)
    pub are : AreAnswers before lines threads later answers
    pub told : answered ≡ answered_from 1 lines answers

  -- the entries are those after a prefix of the lines was recorded in order, and no other line
  pub record IsPrefixRecorded (before : List Entry) (lines : List (Line Cause)) (later : List Entry) : Type 0 where
    pub done : List (Line Cause)
    pub rest : List (Line Cause)
    pub prefix : lines ≡ done ++ rest
    pub entries : later ≡ entries_alone before done
