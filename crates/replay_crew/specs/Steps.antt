-- What one part of a slot's loop adds to the events and the log.
use Rattle.std.specs.Prelude.{ℕ, ◌≡◌, ◌≤◌, ◌+◌, ◌⊎◌, Bool, true, false, List, [], ◌∷◌, ◌++◌, length, Option}
use Rattle.replay_core.specs.declared.event.Event.{Event}
use Rattle.slot_log.specs.declared.note.SlotNote.{SlotNote}
use Rattle.slot_log.specs.declared.note.SlotNote.TheVariants.{Sent, Died, Stopped}
use Rattle.slot_log.specs.Works.{Orders, quit_frame}
use Rattle.slot_log.specs.Logs.{grown}
use Rattle.slot_log.specs.Telling.{Phase, Working, Over, Tells, Told}

-- a worker runs that has created these items, or none is started any more
abbrev pub goes_on : Bool → List Bool → Phase
goes_on true created = Working created
goes_on false created = Over

-- the log has grown by notes that tell these events, from one phase to another
pub record GrewTelling (orders : Orders) (w : ℕ) (from : Phase) (events : List Event) (before now : Option (List SlotNote)) (next : Phase) : Type 0 where
  pub notes : List SlotNote
  pub log_is : now ≡ grown before notes
  pub tells : Tells orders w from events notes next

-- events and notes were added, and the notes tell these events after those that were not told yet
pub record Carried (orders : Orders) (w : ℕ) (from : Phase) (untold events_before events_now : List Event) (before now : Option (List SlotNote)) (next : Phase) : Type 0 where
  pub events : List Event
  pub events_are : events_now ≡ events_before ++ events
  pub grew : GrewTelling orders w from (untold ++ events) before now next

-- a worker was told to quit and stopped, or died
abbrev pub Quits : Option (List SlotNote) → Option (List SlotNote) → Type 0
Quits before now = (now ≡ grown before (Sent quit_frame ∷ Stopped ∷ [])) ⊎ (now ≡ grown before (Died ∷ []))

-- each turn of the seat added an event, or was followed by a wait for more: so there is room for further turns
pub record HasTurns (turns heard : ℕ) (events : List Event) : Type 0 where
  pub used : turns ≤ length events + heard
  pub few : length events ≤ 3145744
  pub most : heard ≤ 2147483647

-- the notes added to the log tell the events of slot w, from its first worker on
pub record IsTold (orders : Orders) (w : ℕ) (events : List Event) (before now : Option (List SlotNote)) : Type 0 where
  pub notes : List SlotNote
  pub log_is : now ≡ grown before notes
  pub told : Told orders w events notes
