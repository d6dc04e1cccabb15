-- Why a command stops, and the status of that.
use Rattle.std.specs.Prelude.{ℕ, Result, Ok, Err}
use Rattle.foz_archive.specs.declared.refusal.ReadError.{ReadError}
use Rattle.foz_archive.specs.declared.refusal.ReadError.TheVariants as read_errors
use Rattle.record_lines.specs.declared.capture.CaptureStop.{CaptureStop}
use Rattle.record_lines.specs.declared.capture.CaptureStop.TheVariants as capture_stops
use Rattle.record_lines.specs.declared.recording.Report.{Report}
use Rattle.foz_base.specs.declared.stop.Stop.{Stop}
use Rattle.foz_base.specs.declared.stop.Stop.TheVariants.{Usage, ReadFault, WriteFault, DiskFault, Absent, Archive, Memory, Full, TooMany, InputTooLong}

abbrev pub stop_of_read : ReadError → Stop
stop_of_read read_errors.DiskFault = ReadFault
stop_of_read (read_errors.Archive error) = Archive error
stop_of_read read_errors.Memory = Memory

abbrev pub stop_of_capture : CaptureStop → Stop
stop_of_capture (capture_stops.Archive error) = Archive error
stop_of_capture capture_stops.DiskFault = DiskFault
stop_of_capture capture_stops.Memory = Memory

abbrev pub status_of_stop : Stop → ℕ
status_of_stop Usage = 2
status_of_stop ReadFault = 3
status_of_stop WriteFault = 4
status_of_stop DiskFault = 5
status_of_stop Absent = 6
status_of_stop (Archive error) = 6
status_of_stop Memory = 7
status_of_stop (Full end need) = 8
status_of_stop (TooMany count) = 8
status_of_stop InputTooLong = 10

abbrev pub report_or_stop : {Cause : Type 0} → Result (Report Cause) CaptureStop → Result (Report Cause) Stop
report_or_stop (Ok report) = Ok report
report_or_stop (Err stopped) = Err (stop_of_capture stopped)
