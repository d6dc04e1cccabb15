-- What is seen of a slot.
use Rattle.std.specs.Prelude.{ℕ, Bool, List, Option}
use Rattle.slot_log.specs.declared.note.SlotNote.{SlotNote}

-- the notes of its log, where they are told, how many starts have failed, and whether a worker runs
pub record SlotView : Type 0 where
  pub log : Option (List SlotNote)
  pub start_faults : ℕ
  pub running : Bool
