-- The notes of a board: the events of its scheduler, each with the number of the seat that made it.
use Rattle.std.specs.Prelude.{ℕ, ◌≡◌, ◌+◌, ◌==◌, not, Bool, true, List, [], ◌∷◌, map, All, Option, Some, None}
use Rattle.replay_core.specs.declared.event.Event.{Event}
use Rattle.replay_core.specs.declared.event.Event.TheVariants.{Start, Reply, Death, Restart, Retire, Miss}
use Rattle.replay_core.specs.Runs.{Setup, setup_of}
use Rattle.replay_core.specs.Histories.{History}
use Rattle.replay_board.specs.declared.note.BoardNote.{BoardNote}
use Rattle.replay_board.specs.declared.origin.BoardOrigin.{BoardOrigin}

-- the events, without the numbers
abbrev pub events_in : List BoardNote → List Event
events_in notes = map (λ n. n.event) notes

-- each event with the number of its maker
abbrev pub signed : List ℕ → List Event → List BoardNote
signed [] events = []
signed (k ∷ ks) [] = []
signed (k ∷ ks) (e ∷ es) = record { seat = k; event = e } ∷ signed ks es

-- Seat w + 1 alone makes the events that name slot w. Any seat but the root may find that an item is missing
abbrev pub may_make : ℕ → Event → Bool
may_make k (Start slot item) = k == slot + 1
may_make k (Reply slot item code) = k == slot + 1
may_make k (Death slot) = k == slot + 1
may_make k (Restart slot) = k == slot + 1
may_make k (Retire slot) = k == slot + 1
may_make k (Miss item place) = not (k == 0)

abbrev pub MayMake : ℕ → Event → Type 0
MayMake k event = may_make k event ≡ true

-- each event was made by a seat that may make it
abbrev pub AreByMakers : List BoardNote → Type 0
AreByMakers notes = All (λ n. MayMake n.seat n.event) notes

-- what the scheduler was given
abbrev pub setup_in : BoardOrigin → Setup
setup_in origin = record { plan = origin.plan; slots = origin.slots; deaths = origin.deaths }

-- what a seat with this origin knows of the scheduler; a seat that was joined knows of no slot
abbrev pub setup_known : Option BoardOrigin → Setup
setup_known (Some origin) = setup_in origin
setup_known None = setup_of (record { deps = [] }) 0

-- the scheduler after these notes
abbrev pub history_of : Setup → List BoardNote → History
history_of s notes = record { setup = s; events = events_in notes }
