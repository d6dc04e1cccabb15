-- What each command promises.
use Rattle.std.specs.Prelude.{◌≡◌, ℕ, Bool, true, false, List, take, Option, Some, None}
use Rattle.disk_model.specs.Faults.{Rose}
use Rattle.foz_words.specs.declared.key.Key.{Key}
use Rattle.state_words.specs.declared.state.State.{State}
use Rattle.capture_reader.specs.Said.{lines_said}
use Rattle.foz_args.specs.declared.command.Command.{Command}
use Rattle.foz_args.specs.declared.command.Command.TheVariants.{List as List_, Put, Hash, Record, Check, Worker, Replay}
use Rattle.replay_run.specs.Replays.{EachFailedToStart}
use Rattle.foz_text.specs.LineCause.{line_cause_text}
use Rattle.foz_base.specs.Outside.{Outside, Tells, FileFaultRose}
use Rattle.foz_tool.specs.ListRun.{Lists}
use Rattle.foz_tool.specs.PutRun.{Puts}
use Rattle.foz_tool.specs.HashRun.{Hashes}
use Rattle.foz_tool.specs.RecordRun.{Records}
use Rattle.foz_tool.specs.CheckRun.{Checks}
use Rattle.foz_tool.specs.WorkerRun.{Serves}
use Rattle.foz_tool.specs.ReplayRun.{Replays}

-- the command ended with this status
abbrev pub Runs : {M : Type 0} → (M → Key → State → ℕ → M → Type 0) → Tells → Option Command → Outside M → Outside M → ℕ → Type 0
Runs creates tells None before after status = status ≡ 2
Runs creates tells (Some (List_ file)) before after status = Lists tells before after file status
Runs creates tells (Some (Put file key)) before after status = Puts tells before after file key status
Runs creates tells (Some Hash) before after status = Hashes tells before after status
Runs creates tells (Some (Record file threads)) before after status = Records line_cause_text lines_said tells before after file threads status
Runs creates tells (Some (Check file)) before after status = Checks creates tells before after file status
Runs creates tells (Some Worker) before after status = Serves creates tells before after status
Runs creates tells (Some (Replay file workers)) before after status = Replays tells before after file workers status

-- the file that a command works on
abbrev pub file_of_command : Option Command → Option (List ℕ)
file_of_command (Some (List_ file)) = Some file
file_of_command (Some (Put file key)) = Some file
file_of_command (Some (Record file threads)) = Some file
file_of_command (Some (Check file)) = Some file
file_of_command (Some (Replay file workers)) = Some file
file_of_command command = None

-- does it read the input?
abbrev pub reads_input : Option Command → Bool
reads_input (Some (Put file key)) = true
reads_input (Some Hash) = true
reads_input (Some (Record file threads)) = true
reads_input (Some Worker) = true
reads_input command = false

-- does it create objects?
abbrev pub creates_objects : Option Command → Bool
creates_objects (Some (Check file)) = true
creates_objects (Some Worker) = true
creates_objects command = false

-- does it run workers?
abbrev pub runs_workers : Option Command → Bool
runs_workers (Some (Replay file workers)) = true
runs_workers command = false

-- What failed where the status tells a fault of what is read: the input, or the file that is only read. `tells` says that
-- the shelf tells what stands under its names.
abbrev pub ReadRose : {M : Type 0} → Type 0 → Option Command → Outside M → Outside M → Type 0
ReadRose tells (Some (List_ file)) before after = tells → FileFaultRose before.files after.files file
ReadRose tells (Some (Check file)) before after = tells → FileFaultRose before.files after.files file
ReadRose tells (Some (Replay file workers)) before after = tells → FileFaultRose before.files after.files file
ReadRose tells None before after = ⊥
ReadRose tells command before after = Rose before.input_faults after.input_faults

-- and of the file that is written
abbrev pub DiskRose : {M : Type 0} → Type 0 → Option Command → Outside M → Outside M → Type 0
DiskRose tells (Some (Put file key)) before after = tells → FileFaultRose before.files after.files file
DiskRose tells (Some (Record file threads)) before after = tells → FileFaultRose before.files after.files file
DiskRose tells command before after = ⊥

-- and where the status tells that items are unanswered: in each slot that the command uses a worker couldn't be started
abbrev pub StartsFailed : {M : Type 0} → Option Command → Outside M → Outside M → Type 0
StartsFailed (Some (Replay file workers)) before after = EachFailedToStart (take workers before.crew) (take workers after.crew)
StartsFailed command before after = ⊥
