-- What a thread has done of the lines of a capture, by what its seat has seen.
use Rattle.std.specs.Prelude.{◌≡◌, ℕ, List, ◌++◌, map, Some, None}
use Rattle.turn_desk.specs.declared.view.View.{View}
use Rattle.turn_desk.specs.Story.{notes_of}
use Rattle.record_words.specs.declared.answered.Answered.{Answered}
use Rattle.record_words.specs.declared.note.FullNote.{FullNote}
use Rattle.record_words.specs.declared.state.RecorderState.{RecorderState}
use Rattle.record_words.specs.Recorded.{Line}
use Rattle.record_dedup.specs.Kept.{Booked}
use Rattle.record_threads.specs.Calls.{seat_of}
use Rattle.record_threads.specs.Threads.{Call, given_of, HasCalls, reads_of}
use Rattle.record_team.specs.Told.{told_by}

-- the seat is outside a turn, knows which book is shared, and has seen all of its own notes
pub record IsAtWork {D : Type 0} (origin : Booked D) (view : View FullNote (Booked D)) : Type 0 where
  pub outside : view.inside ≡ None
  pub origin_is : view.origin ≡ Some origin
  pub own : notes_of seat_of view.number view.seen ≡ view.mine

-- it is still the same seat, and what it made and took back is the same too
pub record IsSame {N O : Type 0} (before after : View N O) : Type 0 where
  pub number : after.number ≡ before.number
  pub origin : after.origin ≡ before.origin

module _ {Cause : Type 0} where
  -- the calls of this seat that record are the thread's of the first lines, in order
  pub record HasRecorded (origin : RecorderState) (lines : List (Line Cause)) (threads thread number : ℕ) (seen : List FullNote) : Type 0 where
    pub calls : List Call
    pub has : HasCalls origin seen number calls
    pub done : List (Line Cause)
    pub rest : List (Line Cause)
    pub prefix : lines ≡ done ++ rest
    pub given : map given_of calls ≡ reads_of threads thread done

  -- they are the thread's of all of the lines, and these are its answers
  pub record HasAnswered (origin : RecorderState) (lines : List (Line Cause)) (threads thread number : ℕ) (seen : List FullNote) (told : List (Answered Cause)) : Type 0 where
    pub calls : List Call
    pub has : HasCalls origin seen number calls
    pub given : map given_of calls ≡ reads_of threads thread lines
    pub told_is : told ≡ told_by threads thread lines calls
