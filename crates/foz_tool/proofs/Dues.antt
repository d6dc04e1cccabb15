-- Where nothing fails, each command ends as it is due.
use Rattle.std.proofs.Common.{◌≡◌, ◌≢◌, ◌⊎◌, inl, inr, ℕ, ◌<◌, ◌≤◌, List, ◌++◌, length, take, Option, Some, None, Result, Ok, Err, refl, sym, ap, ◌∙◌, subst, arith}
use Rattle.disk_model.specs.Faults.{Rose}
use Rattle.foz_words.specs.declared.key.Key.{Key}
use Rattle.state_words.specs.declared.state.State.{State}
use Rattle.foz_entry.specs.declared.cut.Entry.{Entry}
use Rattle.record_words.specs.declared.note.RecordReply.{RecordReply}
use Rattle.record_words.specs.declared.note.RecordReply.TheVariants as replies
use Rattle.record_words.specs.Recorder.{reply_of}
use Rattle.record_words.specs.Recorded.{Line, Answer, AreAnswers}
use Rattle.record_words.specs.Answered.{answered_from}
use Rattle.worker_node.specs.Ends.{IsEnd, IsToEnd}
use Rattle.worker_node.specs.declared.served.Served.{Served}
use Rattle.worker_node.specs.declared.served.Served.TheVariants as served
use Rattle.foz_base.specs.declared.ending.Printout.{Printout}
use Rattle.foz_base.specs.declared.stop.Stop.{Stop}
use Rattle.foz_base.specs.declared.stop.Stop.TheVariants.{ReadFault, DiskFault, Absent, Archive, Memory, Full, TooMany, InputTooLong}
use Rattle.foz_base.specs.Ending.{Makes, Prints, Ended}
use Rattle.foz_base.specs.FileRead.{StopsReading}
use Rattle.foz_base.specs.InputRead.{StopsInput}
use Rattle.foz_base.specs.Outside.{File, Outside, Tells, FileFaultRose}
use Rattle.foz_base.specs.Recording.{StopsRecording}
use Rattle.foz_base.specs.Status.{status_of_stop}
use Rattle.capture_lines.specs.declared.error.LineError.{LineError}
use Rattle.capture_reader.specs.Said.{lines_said}
use Rattle.foz_args.specs.declared.command.Command.{Command}
use Rattle.foz_args.specs.declared.command.Command.TheVariants.{List as List_, Put, Hash, Record, Check, Worker, Replay}
use Rattle.foz_text.specs.LineCause.{line_cause_text}
use Rattle.foz_tool.specs.Due.{NoFault, IsDue, ListDue, HashDue, RecordingDue, PutDue, LinesDue, CheckDue, WorkerDue, ReplayDue}
use Rattle.foz_tool.specs.Program.{Runs}
use Rattle.foz_tool.specs.ListRun.{IsListTold}
use Rattle.foz_tool.specs.HashRun.{IsHashTold}
use Rattle.foz_tool.specs.PutRun.{IsPut, IsPutTold, StopsPut, status_of_reply}
use Rattle.foz_tool.specs.RecordRun.{IsRecordTold, status_of_answers}
use Rattle.foz_tool.specs.CheckRun.{IsCheckTold}
use Rattle.slot_log.specs.Views.{SlotView}
use Rattle.foz_tool.specs.ReplayRun.{IsFileReplayed}
use Rattle.foz_tool.specs.WorkerRun.{HasFault, IsSession, status_of_served}
use Rattle.foz_tool.proofs.Told.{HasOneRecord}

abbrev Came : (List ℕ → ℕ → Type 0) → (Stop → Type 0) → ℕ → Type 0
Came tells stops status = ((text : List ℕ) × tells text status) ⊎ ((stop : Stop) × (stops stop × (status ≡ status_of_stop stop)))

came : (tells : List ℕ → ℕ → Type 0) (stops : Stop → Type 0) (before after : List ℕ) (fault : Type 0) (status : ℕ) → ¬ fault → (outcome : Result Printout Stop) → Makes tells stops outcome
    → Prints outcome before after fault status → Came tells stops status
came tells stops before after fault status sound (Ok made) told (inl whole) = inl (made.text, subst (tells made.text) (sym whole.1) told)
came tells stops before after fault status sound (Ok made) told (inr cut) = absurd (sound cut.fault)
came tells stops before after fault status sound (Err stop) why printed = inr (stop, (why, printed.1))

-- where the output didn't fail, a command did its work, or stopped
ended : {M : Type 0} (tells : List ℕ → ℕ → Type 0) (stops : Stop → Type 0) (before after : Outside M) (status : ℕ) → ¬ Rose before.output_faults after.output_faults → Ended tells stops before after status → Came tells stops status
ended tells stops before after status sound ends = came tells stops before.written after.written (Rose before.output_faults after.output_faults) status sound ends.outcome ends.made ends.printed

-- ---- files that are read

module _ (file : File) (fault : Type 0) (status : ℕ) (sound : ¬ fault) where
  list_stop : (stop : Stop) → StopsReading file fault stop → status ≡ status_of_stop stop → (status ≡ 7) ⊎ ListDue file status
  list_stop Absent why is = inr (inl (is, inl why))
  list_stop (Archive error) why is = inr (inl (is, inr (error, why)))
  list_stop ReadFault why is = absurd (sound why)
  list_stop Memory why is = inl is
  list_stop stop why is = absurd why

  pub list_due : Came (IsListTold file) (StopsReading file fault) status → (status ≡ 7) ⊎ ListDue file status
  list_due (inl told) = inr (inr (told.1.scanned, (told.1.reading, told.1.status_is)))
  list_due (inr stop) = list_stop stop.0 stop.1.0 stop.1.1

  module _ {M : Type 0} (creates : M → Key → State → ℕ → M → Type 0) (old new : M) where
    check_stop : (stop : Stop) → StopsReading file fault stop → status ≡ status_of_stop stop → (status ≡ 7) ⊎ CheckDue creates file old new status
    check_stop Absent why is = inr (inl (is, inl why))
    check_stop (Archive error) why is = inr (inl (is, inr (error, why)))
    check_stop ReadFault why is = absurd (sound why)
    check_stop Memory why is = inl is
    check_stop stop why is = absurd why

    pub check_due : Came (IsCheckTold creates file old new) (StopsReading file fault) status → (status ≡ 7) ⊎ CheckDue creates file old new status
    check_due (inl told) = inr (inr told)
    check_due (inr stop) = check_stop stop.0 stop.1.0 stop.1.1

  module _ (old new : List SlotView) where
    replay_stop : (stop : Stop) → StopsReading file fault stop → status ≡ status_of_stop stop → (status ≡ 7) ⊎ ReplayDue file old new status
    replay_stop Absent why is = inr (inl (is, inl why))
    replay_stop (Archive error) why is = inr (inl (is, inr (error, why)))
    replay_stop ReadFault why is = absurd (sound why)
    replay_stop Memory why is = inl is
    replay_stop stop why is = absurd why

    pub replay_due : Came (IsFileReplayed file old new) (StopsReading file fault) status → (status ≡ 7) ⊎ ReplayDue file old new status
    replay_due (inl told) = inr (inr told)
    replay_due (inr stop) = replay_stop stop.0 stop.1.0 stop.1.1

-- ---- the input

module _ (input rest : List ℕ) (unread : Type 0) (status : ℕ) (sound : ¬ unread) where
  hash_stop : (stop : Stop) → StopsInput input unread stop → status ≡ status_of_stop stop → (status ≡ 7) ⊎ HashDue input status
  hash_stop InputTooLong why is = inr (inl (is, why))
  hash_stop ReadFault why is = absurd (sound why)
  hash_stop Memory why is = inl is
  hash_stop stop why is = absurd why

  pub hash_due : Came (IsHashTold input rest) (StopsInput input unread) status → (status ≡ 7) ⊎ HashDue input status
  hash_due (inl told) = inr (inr (told.1.input.short, told.1.status_is))
  hash_due (inr stop) = hash_stop stop.0 stop.1.0 stop.1.1

  -- ---- files that are written

  module _ (before after : File) (disk : Type 0) (sound_disk : ¬ disk) where
    record_stop : (whole : List Entry → ℕ → Type 0) (stop : Stop) → StopsRecording input rest unread before after disk stop → status ≡ status_of_stop stop → (status ≡ 7) ⊎ RecordingDue input before whole status
    record_stop whole InputTooLong why is = inr (inl (is, why.0))
    record_stop whole ReadFault why is = absurd (sound why.0)
    record_stop whole (Archive error) why is = inr (inr (why.0.short, inl (is, (error, (why.1.refused.refused, why.1.refused.not_new)))))
    record_stop whole DiskFault why is = absurd (sound_disk why.1)
    record_stop whole Memory why is = inl is
    record_stop whole stop why is = absurd why

    module _ (key : Key) where
      put_whole : (reply : RecordReply) → IsPut input rest before after key reply → status ≡ status_of_reply reply → (status ≡ 7) ⊎ RecordingDue input before (PutDue key input) status
      put_whole reply put is = inr (inr (put.read.short, inr (put.entries, (put.held, is ∙ ap status_of_reply put.reply_is))))

      put_stop : (stop : Stop) → StopsPut input rest unread before after disk key stop → status ≡ status_of_stop stop → (status ≡ 7) ⊎ RecordingDue input before (PutDue key input) status
      put_stop (Full end need) why is = put_whole (replies.Full end need) why is
      put_stop (TooMany count) why is = put_whole (replies.TooMany count) why is
      put_stop InputTooLong why is = record_stop (PutDue key input) InputTooLong why is
      put_stop ReadFault why is = record_stop (PutDue key input) ReadFault why is
      put_stop (Archive error) why is = record_stop (PutDue key input) (Archive error) why is
      put_stop DiskFault why is = record_stop (PutDue key input) DiskFault why is
      put_stop Memory why is = inl is
      put_stop stop why is = absurd why

      pub put_due : Came (IsPutTold input rest before after key) (StopsPut input rest unread before after disk key) status → (status ≡ 7) ⊎ RecordingDue input before (PutDue key input) status
      put_due (inl told) = put_whole told.1.reply told.1.put told.1.status_is
      put_due (inr stop) = put_stop stop.0 stop.1.0 stop.1.1

    module _ {Cause : Type 0} (cause_text : Cause → List ℕ) (lines_of : List ℕ → List (Line Cause)) where
      pub record_due : HasOneRecord Cause → (threads : ℕ) → Came (IsRecordTold cause_text lines_of input rest threads before after) (StopsRecording input rest unread before after disk) status
          → (status ≡ 7) ⊎ RecordingDue input before (LinesDue (lines_of input) threads) status
      record_due law threads (inl told) =
          let t = told.1 in
          inr (inr (
            t.read.short,
            inr (
              t.entries,
              (
                t.held,
                record {
                  later = t.later;
                  answers = t.recorded.answers;
                  are = t.recorded.are;
                  alone = λ one. (law t.entries t.later (lines_of input) t.recorded.answers (subst (λ (n : ℕ). AreAnswers t.entries (lines_of input) n t.later t.recorded.answers) one t.recorded.are)).0;
                  status_is = t.status_is;
                },
              ),
            ),
          ))
      record_due law threads (inr stop) = record_stop (LinesDue (lines_of input) threads) stop.0 stop.1.0 stop.1.1

-- ---- the worker

module _ {M : Type 0} (creates : M → Key → State → ℕ → M → Type 0) (before after : Outside M) (status : ℕ) (unread : ¬ Rose before.input_faults after.input_faults) (unwritten : ¬ Rose before.output_faults after.output_faults) where
  came_to : (outcome : Served) (taken : List ℕ) → before.input ≡ taken ++ after.input → (IsToEnd outcome → IsEnd taken after.input outcome)
      → HasFault (Rose before.input_faults after.input_faults) (Rose before.output_faults after.output_faults) outcome → status ≡ status_of_served outcome → (status ≡ 7) ⊎ WorkerDue before.input after.input status
  came_to served.Quit taken parts comes fault is = inr (served.Quit, (tt, (taken, (parts, comes tt, is))))
  came_to (served.InputEnded left) taken parts comes fault is = inr (served.InputEnded left, (tt, (taken, (parts, comes tt, is))))
  came_to (served.BadFrame at) taken parts comes fault is = inr (served.BadFrame at, (tt, (taken, (parts, comes tt, is))))
  came_to served.ReadFault taken parts comes fault is = absurd (unread fault)
  came_to served.WriteFault taken parts comes fault is = absurd (unwritten fault)
  came_to served.Memory taken parts comes fault is = inl is

  pub worker_due : IsSession creates before after status → (status ≡ 7) ⊎ WorkerDue before.input after.input status
  worker_due session = came_to session.outcome session.taken session.parts session.comes session.fault session.answered

-- ---- all commands

pub due : HasOneRecord LineError → {M : Type 0} (creates : M → Key → State → ℕ → M → Type 0) (tells : Tells) (command : Option Command) (before after : Outside M) (status : ℕ) → Runs creates tells command before after status
    → tells.input → tells.output → tells.content → NoFault command before after → (status ≡ 7) ⊎ IsDue creates command before after status
due law creates tells None before after status runs input output content sound = inr runs
due law creates tells (Some (List_ file)) before after status runs input output content sound =
    list_due (before.files.content file) (FileFaultRose before.files after.files file) status (sound.file file refl) (ended _ _ before after status sound.output (runs.ended content output))
due law creates tells (Some (Put file key)) before after status runs input output content sound =
    put_due before.input after.input (Rose before.input_faults after.input_faults) status sound.input (before.files.content file) (after.files.content file) (FileFaultRose before.files after.files file) (sound.file file refl) key
    (ended _ _ before after status sound.output (runs.ended input output content))
due law creates tells (Some Hash) before after status runs input output content sound =
    hash_due before.input after.input (Rose before.input_faults after.input_faults) status sound.input (ended _ _ before after status sound.output (runs.ended input output))
due law creates tells (Some (Record file threads)) before after status runs input output content sound =
    record_due before.input after.input (Rose before.input_faults after.input_faults) status sound.input (before.files.content file) (after.files.content file) (FileFaultRose before.files after.files file) (sound.file file refl)
    line_cause_text lines_said law threads (ended _ _ before after status sound.output (runs.ended input output content))
due law creates tells (Some (Check file)) before after status runs input output content sound =
    check_due (before.files.content file) (FileFaultRose before.files after.files file) status (sound.file file refl) creates before.driver after.driver (ended _ _ before after status sound.output (runs.ended content output))
due law creates tells (Some Worker) before after status runs input output content sound = worker_due creates before after status sound.input sound.output (runs.session input output)
due law creates tells (Some (Replay file workers)) before after status runs input output content sound =
    replay_due (before.files.content file) (FileFaultRose before.files after.files file) status (sound.file file refl) (take workers before.crew) (take workers after.crew) (ended _ _ before after status sound.output (runs.ended content output))
