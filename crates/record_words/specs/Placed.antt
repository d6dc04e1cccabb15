-- Stories in which each line of a capture has its call.
use Rattle.std.specs.Prelude.{◌≡◌, ℕ, ◌%◌, ◌<◌, false, List, [], ◌∷◌, length, take}
use Rattle.std.proofs.Common.{suc}
use Rattle.foz_words.specs.declared.key.Key.{Key}
use Rattle.record_words.specs.declared.note.FullNote.{FullNote}
use Rattle.record_words.specs.declared.note.RecordCall.TheVariants.{Record}
use Rattle.record_words.specs.declared.note.RecordReply.{RecordReply}
use Rattle.record_words.specs.declared.state.RecorderState.{RecorderState}
use Rattle.record_words.specs.Recorder.{reply_of}
use Rattle.record_words.specs.Story.{At, leads, Records, HasNoFault}
use Rattle.record_words.specs.Recorded.{Line, Answer, skipped, refused, read, passed, declined, replied}

-- the note at this place is the call of this seat that records this key and payload
pub record RecordsAt (origin : RecorderState) (story : List FullNote) (number : ℕ) (key : Key) (payload : List ℕ) (place : ℕ) : Type 0 where
  pub note : FullNote
  pub at : At story place note
  pub seat : note.note.seat ≡ number
  pub records : Records (leads origin (take place story)) key payload note

module _ {Cause : Type 0} where
  -- Each line that is read has its own call in the story, by its thread's seat, and a thread's calls are in the order of
  -- its lines. The story has no other calls that record.
  pub record IsPlaced (origin : RecorderState) (story : List FullNote) (lines : List (Line Cause)) (threads : ℕ) (seat place : ℕ → ℕ) : Type 0 where
    pub calls : (k : ℕ) (key : Key) (payload : List ℕ) → At lines k (read key payload) → RecordsAt origin story (seat (k % threads)) key payload (place k)
    pub rising : (j k : ℕ) (a b : Key) (p q : List ℕ) → j < k → j % threads ≡ k % threads → At lines j (read a p) → At lines k (read b q) → place j < place k
    pub every : (p : ℕ) (n : FullNote) (key : Key) → At story p n → n.note.call ≡ Record key → (k : ℕ) × (a : Key) × (b : List ℕ) × (At lines k (read a b) × (place k ≡ p))

-- A story of a recorder whose disk never failed, in which each line that is read has its call, along each thread in order.
-- No two threads have one seat.
pub record TellsEachLine {Cause : Type 0} (origin : RecorderState) (story : List FullNote) (lines : List (Line Cause)) (threads : ℕ) (seat place : ℕ → ℕ) : Type 0 where
  pub some : 0 < threads
  pub distinct : (t u : ℕ) → t < threads → u < threads → seat t ≡ seat u → t ≡ u
  pub whole : origin.broken ≡ false
  pub no_fault : HasNoFault story
  pub placed : IsPlaced origin story lines threads seat place

-- What one seat has done of its thread's lines among the first `upto`: each that is read has its own call, in order, and
-- the seat has made no other calls that record. It is the invariant of a thread's loop over the lines.
pub record IsServed {Cause : Type 0} (origin : RecorderState) (story : List FullNote) (number : ℕ) (lines : List (Line Cause)) (threads thread upto : ℕ) (place : ℕ → ℕ) : Type 0 where
  pub calls : (k : ℕ) (key : Key) (payload : List ℕ) → k < upto → k % threads ≡ thread → At lines k (read key payload) → RecordsAt origin story number key payload (place k)
  pub rising : (j k : ℕ) (a b : Key) (p q : List ℕ) → j < k → k < upto → j % threads ≡ thread → k % threads ≡ thread → At lines j (read a p) → At lines k (read b q) → place j < place k
  pub every : (p : ℕ) (n : FullNote) (key : Key) → At story p n → n.note.seat ≡ number → n.note.call ≡ Record key → (k : ℕ) × (a : Key) × (b : List ℕ) × (k < upto) × (k % threads ≡ thread) × At lines k (read a b) × (place k ≡ p)

module _ {Cause : Type 0} (reply_at : Key → List ℕ → ℕ → RecordReply) (cut : ℕ → ℕ) where
  -- the answers to the lines, from where their calls stand
  unfoldable pub answers_by : (ℕ → ℕ) → List (Line Cause) → List (Answer Cause)
  answers_by place [] = []
  answers_by place (skipped ∷ lines) = passed ∷ answers_by (λ k. place (suc k)) lines
  answers_by place (refused cause ∷ lines) = declined cause ∷ answers_by (λ k. place (suc k)) lines
  answers_by place (read key payload ∷ lines) = replied (reply_at key payload (place 0)) (cut (place 0)) ∷ answers_by (λ k. place (suc k)) lines

-- The answers that a story tells, in which line k has its call at `place k`: the recorder's replies there, each with the
-- number of entries on which it is the reply.
unfoldable pub answers_told : {Cause : Type 0} → RecorderState → List FullNote → List (Line Cause) → (ℕ → ℕ) → List (Answer Cause)
answers_told origin story lines place =
    answers_by (λ key payload p. reply_of (leads origin (take p story)).entries key payload) (λ p. length (leads origin (take p story)).entries) place lines
