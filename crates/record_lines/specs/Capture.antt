-- How the record of a capture in the archive on a disk ends, and what a crash leaves of it.
use Rattle.std.specs.Prelude.{◌≡◌, ℕ, List, length, Result, Ok, Err}
use Rattle.disk_model.specs.Disk.{History, GoesOn}
use Rattle.foz_entry.specs.declared.cut.Entry.{Entry}
use Rattle.foz_archive.specs.declared.refusal.ArchiveError.{ArchiveError}
use Rattle.foz_archive.specs.declared.opening.OpenCause.{OpenCause}
use Rattle.foz_archive.specs.declared.opening.OpenCause.TheVariants as open_causes
use Rattle.foz_archive.specs.Reading.{Holds, IsNew}
use Rattle.foz_archive.specs.Refusal.{IsRefusedToWrite}
use Rattle.record_words.specs.Recorded.{Line}
use Rattle.record_dedup.specs.Kept.{IsArchiveOf}
use Rattle.record_lines.specs.declared.recording.Report.{Report}
use Rattle.record_lines.specs.declared.recording.RecordStop.{RecordStop}
use Rattle.record_lines.specs.declared.recording.RecordStop.TheVariants as record_stops
use Rattle.record_lines.specs.declared.capture.CaptureStop.{CaptureStop}
use Rattle.record_lines.specs.declared.capture.CaptureStop.TheVariants.{Archive, DiskFault, Memory}
use Rattle.record_lines.specs.Recording.{AreRecorded}
use Rattle.record_lines.specs.Batches.{LeavesBatches}
use Rattle.record_lines.specs.Added.{LeavesAdded}

abbrev pub stop_of_open : OpenCause → CaptureStop
stop_of_open open_causes.DiskFault = DiskFault
stop_of_open (open_causes.Archive error) = Archive error
stop_of_open open_causes.Memory = Memory

abbrev pub stop_of_lines : RecordStop → CaptureStop
stop_of_lines record_stops.DiskFault = DiskFault
stop_of_lines record_stops.Memory = Memory

-- the content is no new file's, is refused, and stays
pub record IsLeftRefused (before after : List ℕ) (error : ArchiveError) : Type 0 where
  pub refused : IsRefusedToWrite before error
  pub not_new : ¬ IsNew before
  pub same : after ≡ before

module _ {Cause : Type 0} where
  -- the report is one of these lines, recorded by so many threads on some entries
  pub record AreAnswered (lines : List (Line Cause)) (threads : ℕ) (report : Report Cause) : Type 0 where
    pub before : List Entry
    pub later : List Entry
    pub recorded : AreRecorded before lines threads later report.answers
    pub counted : report.entries ≡ length later

  -- so many threads recorded the lines after the entries that the content held, and it is now an archive of all of them
  pub record IsCaptured (before after : List ℕ) (lines : List (Line Cause)) (threads : ℕ) (report : Report Cause) : Type 0 where
    pub entries : List Entry
    pub held : Holds before entries
    pub later : List Entry
    pub recorded : AreRecorded entries lines threads later report.answers
    pub counted : report.entries ≡ length later
    pub archive : IsArchiveOf after later

  -- how it ends; `fault` says that a count of faults rose
  abbrev pub CaptureEnds : List ℕ → List ℕ → Type 0 → List (Line Cause) → ℕ → Result (Report Cause) CaptureStop → Type 0
  CaptureEnds before after fault lines threads (Ok report) = IsCaptured before after lines threads report
  CaptureEnds before after fault lines threads (Err (Archive error)) = IsLeftRefused before after error
  CaptureEnds before after fault lines threads (Err DiskFault) = fault
  CaptureEnds before after fault lines threads (Err Memory) = Unit {0}

  -- Wherever it ends, of a content that held a list of entries. With one thread the order of what is added is known too.
  pub record CaptureLeaves (before : List ℕ) (old new : History) (lines : List (Line Cause)) (threads : ℕ) : Type 0 where
    pub goes_on : GoesOn old new
    pub added : (entries : List Entry) → Holds before entries → LeavesAdded entries lines old new
    pub batches : threads ≡ 1 → (entries : List Entry) → Holds before entries → LeavesBatches entries lines old new
