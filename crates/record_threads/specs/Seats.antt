-- What contracts say of a recorder and of a seat at it.
use Rattle.std.specs.Prelude.{◌≡◌, ◌+◌, None}
use Rattle.turn_desk.specs.declared.kept.Kept.{Ghosts}
use Rattle.turn_desk.specs.declared.seat.Seat.{Seat}
use Rattle.turn_desk.specs.declared.view.View.{View}
use Rattle.turn_desk.specs.Seats.{IsSeatOf}
use Rattle.record_words.specs.declared.note.FullNote.{FullNote}
use Rattle.record_dedup.specs.Kept.{Booked}
use Rattle.record_threads.specs.Shelves.{Shelved}
use Rattle.record_threads.specs.declared.recorder.Recorder.{Recorder}

-- the seat was made by the recorder
abbrev pub IsSeatAt : {D : Type 0} {g : Ghosts (Shelved D) FullNote (Booked D)} → Recorder D → Seat (Shelved D) FullNote (Booked D) g → Type 0
IsSeatAt recorder seat = IsSeatOf recorder.desk seat

-- One more turn is over. It changed what the seat has seen and its own notes, and nothing else.
abbrev pub IsTurn : {N O : Type 0} → View N O → View N O → Type 0
IsTurn before later = later ≡ record before { turns = before.turns + 1; inside = None; seen = later.seen; mine = later.mine }
