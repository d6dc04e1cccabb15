-- What is due where no call of the outside fails and memory suffices: it follows from the words, the input and the file.
use Rattle.std.specs.Prelude.{◌≡◌, ◌⊎◌, ℕ, ◌<◌, ◌≤◌, List, ◌++◌, length, take, if◌then◌else◌, Option, Some, None}
use Rattle.disk_model.specs.Faults.{Rose}
use Rattle.foz_words.specs.declared.key.Key.{Key}
use Rattle.state_words.specs.declared.state.State.{State}
use Rattle.foz_entry.specs.declared.cut.Entry.{Entry}
use Rattle.foz_archive.specs.declared.refusal.ArchiveError.{ArchiveError}
use Rattle.foz_archive.specs.declared.scanned.Scanned.{Scanned}
use Rattle.foz_archive.specs.Reading.{Holds, IsNew}
use Rattle.foz_archive.specs.Refusal.{IsRefusedToWrite}
use Rattle.record_words.specs.Recorder.{reply_of}
use Rattle.record_words.specs.Recorded.{Line, Answer, AreAnswers}
use Rattle.record_words.specs.Answered.{answered_from}
use Rattle.record_words.specs.Alone.{answers_alone}
use Rattle.capture_reader.specs.Said.{lines_said}
use Rattle.foz_text.specs.ListText.{is_flawless}
use Rattle.foz_text.specs.HashText.{is_readable}
use Rattle.worker_node.specs.Ends.{IsEnd, IsToEnd}
use Rattle.worker_node.specs.declared.served.Served.{Served}
use Rattle.foz_args.specs.declared.command.Command.{Command}
use Rattle.foz_args.specs.declared.command.Command.TheVariants.{List as List_, Put, Hash, Record, Check, Worker, Replay}
use Rattle.foz_base.specs.FileRead.{IsFileReading, IsFileRefused}
use Rattle.foz_base.specs.FileWork.{bytes_of}
use Rattle.foz_base.specs.InputRead.{input_limit}
use Rattle.foz_base.specs.Outside.{File, Outside, absent, FileFaultRose}
use Rattle.slot_log.specs.Views.{SlotView}
use Rattle.foz_tool.specs.CheckRun.{IsCheckTold}
use Rattle.foz_tool.specs.Program.{file_of_command}
use Rattle.foz_tool.specs.PutRun.{status_of_reply}
use Rattle.foz_tool.specs.RecordRun.{status_of_answers}
use Rattle.foz_tool.specs.ReplayRun.{IsFileReplayed}
use Rattle.foz_tool.specs.WorkerRun.{status_of_served}

-- no call failed of the input, of the output, and of the shelf and the disk of the command's file
pub record NoFault {M : Type 0} (command : Option Command) (before after : Outside M) : Type 0 where
  pub input : ¬ Rose before.input_faults after.input_faults
  pub output : ¬ Rose before.output_faults after.output_faults
  pub file : (name : List ℕ) → file_of_command command ≡ Some name → ¬ FileFaultRose before.files after.files name

-- there is no file to read, or it is refused
abbrev pub IsUnreadable : File → Type 0
IsUnreadable file = (file ≡ absent) ⊎ ((error : ArchiveError) × IsFileRefused file error)

-- the file to write is no new one, and is refused
abbrev pub IsUnwritable : File → Type 0
IsUnwritable file = (error : ArchiveError) × (IsRefusedToWrite (bytes_of file) error × (¬ IsNew (bytes_of file)))

abbrev pub ListDue : File → ℕ → Type 0
ListDue file status = ((status ≡ 6) × IsUnreadable file) ⊎ ((scanned : Scanned) × (IsFileReading file scanned × (status ≡ (if is_flawless scanned then 0 else 1))))

abbrev pub HashDue : List ℕ → ℕ → Type 0
HashDue input status = ((status ≡ 10) × (input_limit < length input)) ⊎ ((length input ≤ input_limit) × (status ≡ (if is_readable input then 0 else 1)))

-- of a command that records its input; `whole` says it of the entries that the file holds
abbrev pub RecordingDue : List ℕ → File → (List Entry → ℕ → Type 0) → ℕ → Type 0
RecordingDue input file whole status =
    ((status ≡ 10) × (input_limit < length input)) ⊎ ((length input ≤ input_limit) × (((status ≡ 6) × IsUnwritable file) ⊎ ((entries : List Entry) × (Holds (bytes_of file) entries × whole entries status))))

abbrev pub PutDue : Key → List ℕ → List Entry → ℕ → Type 0
PutDue key input entries status = status ≡ status_of_reply (reply_of entries key input)

-- The status is that of a record of the lines by so many threads. One thread has one record alone.
pub record LinesDue {Cause : Type 0} (lines : List (Line Cause)) (threads : ℕ) (entries : List Entry) (status : ℕ) : Type 0 where
  pub later : List Entry
  pub answers : List (Answer Cause)
  pub are : AreAnswers entries lines threads later answers
  pub alone : threads ≡ 1 → answers ≡ answers_alone entries lines
  pub status_is : status ≡ status_of_answers (answered_from 1 lines answers)

abbrev pub CheckDue : {M : Type 0} → (M → Key → State → ℕ → M → Type 0) → File → M → M → ℕ → Type 0
CheckDue creates file old new status = ((status ≡ 6) × IsUnreadable file) ⊎ ((text : List ℕ) × IsCheckTold creates file old new text status)

-- by workers in these slots
abbrev pub ReplayDue : File → List SlotView → List SlotView → ℕ → Type 0
ReplayDue file old new status = ((status ≡ 6) × IsUnreadable file) ⊎ ((text : List ℕ) × IsFileReplayed file old new text status)

-- the end that the frames come to
abbrev pub WorkerDue : List ℕ → List ℕ → ℕ → Type 0
WorkerDue input rest status = (end : Served) × (IsToEnd end × ((taken : List ℕ) × ((input ≡ taken ++ rest) × IsEnd taken rest end × (status ≡ status_of_served end))))

abbrev pub IsDue : {M : Type 0} → (M → Key → State → ℕ → M → Type 0) → Option Command → Outside M → Outside M → ℕ → Type 0
IsDue creates None before after status = status ≡ 2
IsDue creates (Some (List_ file)) before after status = ListDue (before.files.content file) status
IsDue creates (Some (Put file key)) before after status = RecordingDue before.input (before.files.content file) (PutDue key before.input) status
IsDue creates (Some Hash) before after status = HashDue before.input status
IsDue creates (Some (Record file threads)) before after status = RecordingDue before.input (before.files.content file) (LinesDue (lines_said before.input) threads) status
IsDue creates (Some (Check file)) before after status = CheckDue creates (before.files.content file) before.driver after.driver status
IsDue creates (Some Worker) before after status = WorkerDue before.input after.input status
IsDue creates (Some (Replay file workers)) before after status = ReplayDue (before.files.content file) (take workers before.crew) (take workers after.crew) status
