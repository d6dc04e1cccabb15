-- A slot's log, and when a worker may be sent a frame or asked for bytes.
use Rattle.std.specs.Prelude.{ℕ, ◌≡◌, ◌+◌, ◌≤◌, List, ◌∷◌, ◌++◌, length, map, Option, Some, None}
use Rattle.std.specs.List.{concat}
use Rattle.worker_msg.specs.Frames.{limit}
use Rattle.slot_log.specs.declared.note.SlotNote.{SlotNote}
use Rattle.slot_log.specs.declared.note.SlotNote.TheVariants.{Sent, Got}
use Rattle.slot_log.specs.Works.{Work, load_frame, do_frame, quit_frame}

-- a log, where it is told, with these notes at its end
abbrev pub grown : Option (List SlotNote) → List SlotNote → Option (List SlotNote)
grown None notes = None
grown (Some log) notes = Some (log ++ notes)

-- a whole frame that a worker may be sent
pub data IsToWorker (frame : List ℕ) : Type 0 where
  load : (work : Work) → length work.payload ≤ limit → frame ≡ load_frame work → IsToWorker frame
  work : (work : Work) → length work.payload ≤ limit → frame ≡ do_frame work → IsToWorker frame
  quit : frame ≡ quit_frame → IsToWorker frame

-- the last frame sent was a Do, and its answer of 21 bytes lacks so many bytes at least
pub record AwaitsAnswer (log : List SlotNote) (bytes : ℕ) : Type 0 where
  pub before : List SlotNote
  pub asked_for : Work
  pub pieces : List (List ℕ)
  pub parts : log ≡ before ++ Sent (do_frame asked_for) ∷ map Got pieces
  pub room : length (concat pieces) + bytes ≤ 21
