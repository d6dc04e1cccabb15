-- What it is that a capture was recorded by several threads.
use Rattle.std.specs.Prelude.{◌≡◌, ℕ, ◌%◌, ◌<◌, ◌≤◌, ⊤, List, ◌++◌, length, take}
use Rattle.std.specs.List.{AllZip}
use Rattle.foz_words.specs.declared.key.Key.{Key}
use Rattle.foz_entry.specs.declared.cut.Entry.{Entry}
use Rattle.foz_entry.specs.Entries.{end_of, entry_of}
use Rattle.record_words.specs.declared.note.RecordReply.{RecordReply}
use Rattle.record_words.specs.declared.note.RecordReply.TheVariants.{New}
use Rattle.record_words.specs.Recorder.{reply_of}
use Rattle.record_words.specs.Story.{At}

module _ (Cause : Type 0) where
  -- a line of a capture, as it is read
  pub data Line : Type 0 where
    skipped : Line
    refused : Cause → Line
    read : Key → List ℕ → Line

  -- what a line is answered: nothing, its refusal, or a reply, which is the recorder's on so many of the first entries
  pub data Answer : Type 0 where
    passed : Answer
    declined : Cause → Answer
    replied : RecordReply → ℕ → Answer

-- The reply is the recorder's to this key and payload on the first n entries. A new entry is the one at place n.
pub record IsReplyAt (before later : List Entry) (key : Key) (payload : List ℕ) (reply : RecordReply) (n : ℕ) : Type 0 where
  pub from : length before ≤ n
  pub upto : n ≤ length later
  pub reply_is : reply ≡ reply_of (take n later) key payload
  pub added : (i : ℕ) → reply ≡ New i → (i ≡ n) × At later n (entry_of (end_of (take n later)) key payload)

module _ {Cause : Type 0} where
  abbrev pub IsAnswered : List Entry → List Entry → Line Cause → Answer Cause → Type 0
  IsAnswered before later skipped passed = ⊤
  IsAnswered before later (refused cause) (declined told) = told ≡ cause
  IsAnswered before later (read key payload) (replied reply n) = IsReplyAt before later key payload reply n
  IsAnswered before later line answer = ⊥

  -- The answers are those of so many threads, which take the lines in turn: each reply stands at a place of the one
  -- growing list, along a thread the places never fall, and each added entry is the new one of one line.
  pub record AreAnswers (before : List Entry) (lines : List (Line Cause)) (threads : ℕ) (later : List Entry) (answers : List (Answer Cause)) : Type 0 where
    pub added : List Entry
    pub grown : later ≡ before ++ added
    pub each : AllZip (IsAnswered before later) lines answers
    pub in_order : (j k : ℕ) (a b : RecordReply) (m n : ℕ) → j < k → j % threads ≡ k % threads → At answers j (replied a m) → At answers k (replied b n) → (m ≤ n) × (a ≡ New m → m < n)
    pub once : (i : ℕ) → length before ≤ i → i < length later → (k : ℕ) × (At answers k (replied (New i) i) × ((j : ℕ) → At answers j (replied (New i) i) → j ≡ k))

  -- The lines were recorded: after them the archive holds `later`, and this text tells their answers.
  pub record Recorded (text_of : List (Line Cause) → List (Answer Cause) → ℕ → List ℕ) (before : List Entry) (lines : List (Line Cause)) (threads : ℕ) (later : List Entry) (text : List ℕ) : Type 0 where
    pub answers : List (Answer Cause)
    pub are : AreAnswers before lines threads later answers
    pub told : text ≡ text_of lines answers (length later)
