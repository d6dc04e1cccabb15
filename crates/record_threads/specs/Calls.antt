-- What a call of a seat adds to what it had seen.
use Rattle.std.specs.Prelude.{◌≡◌, ◌≢◌, All, ℕ, List, [], ◌∷◌, ◌++◌, Option, Some, Result, Ok, Err}
use Rattle.turn_desk.specs.declared.view.View.{View}
use Rattle.record_words.specs.declared.note.FullNote.{FullNote}
use Rattle.record_words.specs.declared.note.RecordReply.{RecordReply}
use Rattle.record_words.specs.declared.state.RecorderState.{RecorderState}
use Rattle.record_words.specs.Story.{leads}
use Rattle.record_dedup.specs.declared.ack.RecordError.{RecordError}
use Rattle.record_dedup.specs.Kept.{Booked, recorder_of}
use Rattle.record_dedup.specs.Steps.{reply_told}
use Rattle.record_threads.specs.declared.recorder.Receipt.{Receipt}

-- the number that a note carries
abbrev pub seat_of : FullNote → ℕ
seat_of n = n.note.seat

-- the reply that an answer tells, which running out of memory doesn't
abbrev pub reply_received : Result Receipt RecordError → Option RecordReply
reply_received (Ok receipt) = reply_told (Ok receipt.ack)
reply_received (Err error) = reply_told (Err error)

-- The seat has seen notes of other seats, and then one of its own, which is such a note in the state to which those
-- before it lead.
pub record HasNoted {D : Type 0} (before : View FullNote (Booked D)) (IsNote : RecorderState → FullNote → Type 0) (later : View FullNote (Booked D)) : Type 0 where
  pub origin : Booked D
  pub origin_is : before.origin ≡ Some origin
  pub between : List FullNote
  pub others : All (λ n. n.note.seat ≢ before.number) between
  pub note : FullNote
  pub seen : later.seen ≡ (before.seen ++ between) ++ note ∷ []
  pub mine : later.mine ≡ before.mine ++ note ∷ []
  pub seat_is : note.note.seat ≡ before.number
  pub is_note : IsNote (leads (recorder_of origin) (before.seen ++ between)) note
