-- Stories in which the seats of several threads have the calls of a capture's lines.
use Rattle.std.specs.Prelude.{◌≡◌, ◌⊎◌, ℕ, ◌+◌, ◌%◌, ◌<◌, ◌==◌, ◌&&◌, Bool, true, false, cond, if◌then◌else◌, List, [], ◌∷◌, length, map, take}
use Rattle.std.specs.List.{AllZip}
use Rattle.foz_words.specs.declared.key.Key.{Key}
use Rattle.foz_entry.specs.declared.cut.Entry.{Entry}
use Rattle.record_words.specs.declared.note.FullNote.{FullNote}
use Rattle.record_words.specs.declared.note.RecordCall.{RecordCall}
use Rattle.record_words.specs.declared.note.RecordCall.TheVariants.{Record, Flush}
use Rattle.record_words.specs.declared.note.RecordReply.{RecordReply}
use Rattle.record_words.specs.declared.state.RecorderState.{RecorderState}
use Rattle.record_words.specs.Story.{At, leads, Legal, HasNoFault}
use Rattle.record_words.specs.Recorded.{Line, Answer, skipped, refused, read, replied, AreAnswers}
use Rattle.record_threads.specs.Ties.{IsTied}

-- a call that records: what was given, and the reply
pub record Call : Type 0 where
  pub key : Key
  pub payload : List ℕ
  pub reply : RecordReply

-- a key with a payload
abbrev pub Given : Type 0
Given = Key × List ℕ

abbrev pub given_of : Call → Given
given_of call = (call.key, call.payload)

abbrev pub is_record : RecordCall → Bool
is_record (Record key) = true
is_record Flush = false

-- the note is that of this seat's call that records
abbrev pub is_own : ℕ → FullNote → Bool
is_own number n = (n.note.seat == number) && is_record n.note.call

-- the places of these notes in a story, whose first note has the place p
abbrev pub places_from : ℕ → ℕ → List FullNote → List ℕ
places_from p number [] = []
places_from p number (n ∷ ns) = if is_own number n then p ∷ places_from (p + 1) number ns else places_from (p + 1) number ns

abbrev pub places_of : ℕ → List FullNote → List ℕ
places_of number story = places_from 0 number story

-- the note at this place is that of the seat's call
pub record IsCallAt (origin : RecorderState) (story : List FullNote) (number : ℕ) (call : Call) (place : ℕ) : Type 0 where
  pub note : FullNote
  pub at : At story place note
  pub seat_is : note.note.seat ≡ number
  pub call_is : note.note.call ≡ Record call.key
  pub reply_is : note.note.reply ≡ call.reply
  pub tied : IsTied (leads origin (take place story)).entries call.payload note

-- The calls of this seat that record are these, in order. It is what a thread knows of its seat while it goes over its lines.
abbrev pub HasCalls : RecorderState → List FullNote → ℕ → List Call → Type 0
HasCalls origin story number calls = AllZip (IsCallAt origin story number) calls (places_of number story)

module _ {Cause : Type 0} where
  -- what the lines of one thread that are read give to record, where the first line has the number k
  abbrev pub reads_from : ℕ → ℕ → ℕ → List (Line Cause) → List Given
  reads_from k threads thread [] = []
  reads_from k threads thread (skipped ∷ lines) = reads_from (k + 1) threads thread lines
  reads_from k threads thread (refused cause ∷ lines) = reads_from (k + 1) threads thread lines
  reads_from k threads thread (read key payload ∷ lines) = if k % threads == thread then (key, payload) ∷ reads_from (k + 1) threads thread lines else reads_from (k + 1) threads thread lines

  -- the threads take the lines in turn
  abbrev pub reads_of : ℕ → ℕ → List (Line Cause) → List Given
  reads_of threads thread lines = reads_from 0 threads thread lines

  -- how many of the lines before line k are read by the same thread
  abbrev pub rank : ℕ → List (Line Cause) → ℕ → ℕ
  rank threads lines k = length (reads_of threads (k % threads) (take k lines))

  -- A legal story without a fault of the disk, in which the seats of so many threads have the calls of the threads' lines,
  -- and nobody else records.
  pub record TellsThreads (origin : RecorderState) (story : List FullNote) (lines : List (Line Cause)) (threads : ℕ) (seat : ℕ → ℕ) (calls : ℕ → List Call) : Type 0 where
    pub some : 0 < threads
    pub distinct : (t u : ℕ) → t < threads → u < threads → seat t ≡ seat u → t ≡ u
    pub whole : origin.broken ≡ false
    pub legal : Legal origin story
    pub no_fault : HasNoFault story
    pub nobody_else : (p : ℕ) (n : FullNote) (key : Key) → At story p n → n.note.call ≡ Record key → (t : ℕ) × (t < threads) × (n.note.seat ≡ seat t)
    pub each : (t : ℕ) → t < threads → HasCalls origin story (seat t) (calls t)
    pub lines_are : (t : ℕ) → t < threads → map given_of (calls t) ≡ reads_of threads t lines

  -- The lines are answered as so many threads answer them, and each that is read as its call was.
  pub record AreAnsweredByCalls (before : List Entry) (lines : List (Line Cause)) (threads : ℕ) (later : List Entry) (calls : ℕ → List Call) : Type 0 where
    pub answers : List (Answer Cause)
    pub are : AreAnswers before lines threads later answers
    pub by_calls : (k : ℕ) (key : Key) (payload : List ℕ) (call : Call) → At lines k (read key payload) → At (calls (k % threads)) (rank threads lines k) call → (n : ℕ) × At answers k (replied call.reply n)
