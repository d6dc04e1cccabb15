-- What a log that tells a slot's events has in it.
use Rattle.std.specs.Prelude.{ℕ, suc, ◌≡◌, ◌⊎◌, Bool, true, false, Contains, List, [], ◌∷◌, ◌++◌, map, count_by}
use Rattle.std.specs.List.{concat}
use Rattle.replay_core.specs.declared.event.Event.{Event}
use Rattle.replay_core.specs.declared.event.Event.TheVariants.{Start, Reply, Death, Restart, Retire, Miss}
use Rattle.slot_log.specs.declared.note.SlotNote.{SlotNote}
use Rattle.slot_log.specs.declared.note.SlotNote.TheVariants.{Started, NotStarted, Sent, Got, Died, Stopped}
use Rattle.slot_log.specs.Works.{Orders, work_of, do_frame, reply_frame}
use Rattle.slot_log.specs.Telling.{Told}
use Rattle.replay_core.specs.Counting.{is_restart, is_retirement}

abbrev pub is_start : SlotNote → Bool
is_start Started = true
is_start NotStarted = false
is_start (Sent frame) = false
is_start (Got bytes) = false
is_start Died = false
is_start Stopped = false

abbrev pub is_failed_start : SlotNote → Bool
is_failed_start Started = false
is_failed_start NotStarted = true
is_failed_start (Sent frame) = false
is_failed_start (Got bytes) = false
is_failed_start Died = false
is_failed_start Stopped = false

-- a worker was started as often as there are restarts and once more, unless the first start failed; and a start failed as often as the slot was retired
pub record StartsAreTold : Type 0 where
  pub started : (orders : Orders) (w : ℕ) (events : List Event) (notes : List SlotNote) → Told orders w events notes →
      (count_by is_start notes ≡ suc (count_by is_restart events)) ⊎ ((events ≡ Retire w ∷ []) × (notes ≡ NotStarted ∷ []))
  pub failed : (orders : Orders) (w : ℕ) (events : List Event) (notes : List SlotNote) → Told orders w events notes →
      count_by is_failed_start notes ≡ count_by is_retirement events

-- the notes have a Do of the item, and right after it the 21 bytes of its Reply with this code
pub record HasAnswer (orders : Orders) (notes : List SlotNote) (i code : ℕ) : Type 0 where
  pub before : List SlotNote
  pub pieces : List (List ℕ)
  pub after : List SlotNote
  pub parts : notes ≡ before ++ ((Sent (do_frame (work_of orders i)) ∷ map Got pieces) ++ after)
  pub bytes_are : concat pieces ≡ reply_frame (work_of orders i) code

-- each reply is what a worker sent, after it was asked
abbrev pub RepliesAreTold : Type 0
RepliesAreTold = (orders : Orders) (w : ℕ) (events : List Event) (notes : List SlotNote) → Told orders w events notes →
    (i code : ℕ) → Contains events (Reply w i code) → HasAnswer orders notes i code
