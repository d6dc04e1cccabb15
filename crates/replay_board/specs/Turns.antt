-- What one call does to the seat that makes it.
use Rattle.std.specs.Prelude.{ℕ, ◌≡◌, ◌≢◌, ◌+◌, ◌-◌, List, [], ◌++◌, All}
use mathlib.Core.Option.{some}
use lib.ListN.{get_elem?}
use Rattle.std.specs.List.{filter}
use Rattle.turn_desk.specs.declared.view.View.{View}
use Rattle.turn_desk.specs.declared.view.Joined.{Joined}
use Rattle.replay_core.specs.declared.event.Event.{Event}
use Rattle.replay_core.specs.Runs.{names}
use Rattle.replay_core.specs.Histories.{History}
use Rattle.replay_board.specs.declared.note.BoardNote.{BoardNote}
use Rattle.replay_board.specs.declared.origin.BoardOrigin.{BoardOrigin}
use Rattle.replay_board.specs.declared.seat.BoardSeat.{BoardSeat}
use Rattle.replay_board.specs.Notes.{events_in, history_of}
use Rattle.replay_board.specs.Seats.{desk_view, number_of, notes_seen, own_notes, setup_seen, slot_of, turns_of, own_events, events_seen}

-- one turn later, with these notes seen, of which these are the seat's own
abbrev pub turned : View BoardNote BoardOrigin → List BoardNote → List BoardNote → View BoardNote BoardOrigin
turned v seen own = record v { turns = v.turns + 1; seen = seen; mine = own }

-- One turn of a seat takes this step of the scheduler: to what the seat had seen come notes of other seats,
-- and then those of the events that the step adds, which are the seat's own.
-- The events that name the seat's slot are its own ones, when the turn begins and when it ends
pub record TakesStep (call : History → History → Type 0) (before after : BoardSeat) : Type 0 where
  pub others : List BoardNote
  pub added : List BoardNote
  pub view : desk_view after ≡ turned (desk_view before) ((notes_seen before ++ others) ++ added) (own_notes before ++ added)
  pub by_others : All (λ n. n.seat ≢ number_of before) others
  pub by_it : All (λ n. n.seat ≡ number_of before) added
  pub step : call (history_of (setup_seen before) (notes_seen before ++ others)) (history_of (setup_seen before) (notes_seen after))
  pub own_before : filter (names (slot_of before)) (events_in (notes_seen before ++ others)) ≡ own_events before
  pub own_after : filter (names (slot_of before)) (events_seen after) ≡ own_events after

-- the same slot of the same scheduler
abbrev pub IsSameSlot : BoardSeat → BoardSeat → Type 0
IsSameSlot before after = (slot_of after ≡ slot_of before) × (setup_seen after ≡ setup_seen before)

-- the root of a board on which nothing was done yet
pub record IsNewRoot (root : BoardSeat) : Type 0 where
  pub seen : notes_seen root ≡ []
  pub own : own_notes root ≡ []
  pub joined : (desk_view root).joined ≡ []
  pub turns : turns_of root ≡ 0
  pub out : (desk_view root).out ≡ 0
  pub made : (desk_view root).made ≡ 1

-- the events of the slot of each seat that was joined are those that the seat made
abbrev pub IsSlotStory : List (Joined BoardNote) → List Event → Type 0
IsSlotStory joined events = (p : ℕ) (j : Joined BoardNote) → get_elem? joined p ≡ some j → filter (names (j.number - 1)) events ≡ filter (names (j.number - 1)) (events_in j.notes)
