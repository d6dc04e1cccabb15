-- What the threads of a team have done, once their seats are back.
use Rattle.std.specs.Prelude.{◌≡◌, ℕ, ◌+◌, ◌-◌, ◌<◌, List, [], ◌++◌, length, filter, map, Option, Some, IsSome, IfSome}
use mathlib.Core.List.{IsPrefix}
use Rattle.turn_desk.specs.declared.view.Joined.{Joined}
use Rattle.turn_desk.specs.declared.view.View.{View}
use Rattle.turn_desk.specs.Story.{IsJoined, newcomer}
use Rattle.record_words.specs.declared.answered.Answered.{Answered}
use Rattle.record_words.specs.declared.note.FullNote.{FullNote}
use Rattle.record_words.specs.declared.state.RecorderState.{RecorderState}
use Rattle.record_words.specs.Story.{At}
use Rattle.record_words.specs.Recorded.{Line}
use Rattle.record_dedup.specs.Kept.{Booked, recorder_of}
use Rattle.record_threads.specs.Threads.{Call, given_of, HasCalls, reads_of}
use Rattle.record_team.specs.Told.{told_by, is_of}
use Rattle.record_team.specs.Merged.{Rise}
use Rattle.record_team.specs.Batched.{AreBatches}
use Rattle.record_team.specs.Work.{IsAtWork, HasRecorded, HasAnswered}

-- the root's view after so many splits
abbrev pub after_splits : {N O : Type 0} → View N O → ℕ → View N O
after_splits v n = record v { out = v.out + n; made = v.made + n }

-- the view of a new seat, that of the thread of this number
abbrev pub new_view : {D : Type 0} → Booked D → ℕ → View FullNote (Booked D)
new_view origin thread = newcomer (Some origin) (thread + 1) 0 []

-- what the root keeps of a seat that is back
abbrev pub joined_of : {N O : Type 0} → View N O → Joined N
joined_of view = record { number = view.number; notes = view.mine; seen = view.seen }

-- the root has taken these seats back, and has seen what they had
pub record IsBack {N O : Type 0} (before : View N O) (seats : List (View N O)) (after : View N O) : Type 0 where
  pub number : after.number ≡ before.number
  pub origin : after.origin ≡ before.origin
  pub outside : after.inside ≡ before.inside
  pub mine : after.mine ≡ before.mine
  pub out : after.out ≡ before.out - length seats
  pub joined : after.joined ≡ before.joined ++ map joined_of seats
  pub seen : (i : ℕ) (seat : View N O) → At seats i seat → IsPrefix seat.seen after.seen

module _ {Cause : Type 0} where
  -- What a thread has done at the end of its work, by its seat. Where it finished, it says how many lines there were.
  pub record HasWorked {D : Type 0} (origin : Booked D) (lines : List (Line Cause)) (threads thread number : ℕ) (view : View FullNote (Booked D)) (told : List (Answered Cause)) (finished : Option ℕ) : Type 0 where
    pub work : IsAtWork origin view
    pub number_is : view.number ≡ number
    pub recorded : HasRecorded (recorder_of origin) lines threads thread number view.seen
    pub answered : IsSome finished → HasAnswered (recorder_of origin) lines threads thread number view.seen told
    pub counted : IfSome finished (λ count. count ≡ length lines)
    pub batches : IsSome finished → AreBatches view.mine

  -- Each seat that is back is that of a thread, and each thread's seat has recorded lines of the thread alone.
  pub record AreBack {D : Type 0} (origin : RecorderState) (lines : List (Line Cause)) (threads : ℕ) (root : View FullNote (Booked D)) : Type 0 where
    pub seats : (number : ℕ) → IsJoined root.joined number → (thread : ℕ) × (thread < threads) × (number ≡ thread + 1)
    pub recorded : (thread : ℕ) → thread < threads → HasRecorded origin lines threads thread (thread + 1) root.seen

  -- Each thread has recorded all of its lines, and these are the answers of all threads in the order of lines.
  pub record HaveAnswered (origin : RecorderState) (lines : List (Line Cause)) (threads : ℕ) (seen : List FullNote) (all : List (Answered Cause)) : Type 0 where
    pub calls : ℕ → List Call
    pub has : (thread : ℕ) → thread < threads → HasCalls origin seen (thread + 1) (calls thread)
    pub given : (thread : ℕ) → thread < threads → map given_of (calls thread) ≡ reads_of threads thread lines
    pub merged : (whole : List (Answered Cause)) → Rise 1 (length lines + 1) whole → ((thread : ℕ) → thread < threads → told_by threads thread lines (calls thread) ≡ filter (is_of threads thread) whole) → all ≡ whole
