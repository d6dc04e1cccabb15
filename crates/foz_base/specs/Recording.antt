-- The input recorded in a file.
use Rattle.std.specs.Prelude.{◌≡◌, ◌⊎◌, ℕ, ◌<◌, List, [], ◌∷◌, length, Option, Some, None, Result, Ok, Err}
use Rattle.foz_archive.specs.declared.refusal.ArchiveError.{ArchiveError}
use Rattle.record_words.specs.declared.note.RecordReply.{RecordReply}
use Rattle.record_words.specs.declared.answered.Answered.{Answered}
use Rattle.record_words.specs.declared.answered.LineAnswer.{LineAnswer}
use Rattle.record_words.specs.declared.answered.LineAnswer.TheVariants.{Refused, Replied}
use Rattle.record_words.specs.Recorded.{Line}
use Rattle.record_lines.specs.declared.line.NextLine.{NextLine}
use Rattle.record_lines.specs.Lines.{line_of}
use Rattle.record_lines.specs.declared.recording.Report.{Report}
use Rattle.record_lines.specs.Capture.{IsCaptured, IsLeftRefused}
use Rattle.foz_base.specs.declared.ending.Printout.{Printout}
use Rattle.foz_base.specs.declared.stop.Stop.{Stop}
use Rattle.foz_base.specs.declared.stop.Stop.TheVariants.{ReadFault, DiskFault, Archive, Memory, Full, TooMany, InputTooLong}
use Rattle.foz_base.specs.FileWork.{bytes_of}
use Rattle.foz_base.specs.InputRead.{IsInputRead, input_limit}
use Rattle.foz_base.specs.Outside.{File, holds}

-- so many threads record lines after what a content held, or it is refused and stays
abbrev pub Captures : {Cause : Type 0} → List (Line Cause) → ℕ → List ℕ → List ℕ → Result (Report Cause) Stop → Type 0
Captures lines threads before after (Ok report) = IsCaptured before after lines threads report
Captures lines threads before after (Err (Archive error)) = IsLeftRefused before after error
Captures lines threads before after (Err stop) = Unit {0}

-- the most threads that record together
abbrev pub team_limit : ℕ
team_limit = 16

-- the lines that a capture of one line still has
abbrev pub lines_left : {Cause : Type 0} → Option (NextLine Cause) → List (Line Cause)
lines_left None = []
lines_left (Some line) = line_of line ∷ []

abbrev pub reply_in : {Cause : Type 0} → LineAnswer Cause → Option RecordReply
reply_in (Refused cause) = None
reply_in (Replied key reply) = Some reply

-- the reply to the one line of a capture
abbrev pub only_reply : {Cause : Type 0} → List (Answered Cause) → Option RecordReply
only_reply (answered ∷ []) = reply_in answered.answer
only_reply answers = None

-- with these statuses what was to be recorded was recorded and flushed
abbrev pub IsFlushed : ℕ → Type 0
IsFlushed status = (status ≡ 0) ⊎ (status ≡ 1) ⊎ (status ≡ 4) ⊎ (status ≡ 8)

-- the file is no new one, is refused, and stays
pub record IsKeptRefused (before after : File) (error : ArchiveError) : Type 0 where
  pub bytes : List ℕ
  pub is_there : after ≡ holds bytes
  pub refused : IsLeftRefused (bytes_of before) bytes error

-- what was to be recorded was recorded and flushed, whether all of it had room or not
abbrev pub IsDone : Result Printout Stop → Type 0
IsDone (Ok made) = Unit {0}
IsDone (Err (Full end need)) = Unit {0}
IsDone (Err (TooMany count)) = Unit {0}
IsDone (Err stop) = ⊥

-- Why a command stops that records its input in a file. It had `input` to read and left `rest`; the file was `before` and is
-- `after`; `read` and `disk` say that the input failed, and the file.
abbrev pub StopsRecording : (input rest : List ℕ) (read : Type 0) (before after : File) (disk : Type 0) → Stop → Type 0
StopsRecording input rest read before after disk InputTooLong = (input_limit < length input) × (after ≡ before)
StopsRecording input rest read before after disk ReadFault = read × (after ≡ before)
StopsRecording input rest read before after disk (Archive error) = IsInputRead input rest input × IsKeptRefused before after error
StopsRecording input rest read before after disk DiskFault = IsInputRead input rest input × disk
StopsRecording input rest read before after disk Memory = Unit {0}
StopsRecording input rest read before after disk stop = ⊥
