-- The answers of one thread to its lines.
use Rattle.std.specs.Prelude.{ℕ, ◌+◌, ◌-◌, ◌%◌, ◌==◌, Bool, if◌then◌else◌, List, [], ◌∷◌}
use Rattle.foz_words.specs.declared.key.Key.{Key}
use Rattle.record_words.specs.declared.note.RecordReply.{RecordReply}
use Rattle.record_words.specs.declared.answered.Answered.{Answered}
use Rattle.record_words.specs.declared.answered.LineAnswer.TheVariants.{Refused, Replied}
use Rattle.record_words.specs.Recorded.{Line, skipped, refused, read}
use Rattle.record_threads.specs.Threads.{Call}

module _ {Cause : Type 0} where
  -- the answers to line k, counted from 0
  abbrev pub declined_at : ℕ → Cause → Answered Cause
  declined_at k cause = record { line = k + 1; answer = Refused cause }

  abbrev pub replied_at : ℕ → Key → RecordReply → Answered Cause
  replied_at k key reply = record { line = k + 1; answer = Replied key reply }

  -- the answers to those of the lines that one thread takes, of which the first has the number k, where its calls were these
  abbrev pub told_from : ℕ → ℕ → ℕ → List (Line Cause) → List Call → List (Answered Cause)
  told_from k threads thread [] calls = []
  told_from k threads thread (skipped ∷ lines) calls = told_from (k + 1) threads thread lines calls
  told_from k threads thread (refused cause ∷ lines) calls = if k % threads == thread then declined_at k cause ∷ told_from (k + 1) threads thread lines calls else told_from (k + 1) threads thread lines calls
  told_from k threads thread (read key payload ∷ lines) [] = told_from (k + 1) threads thread lines []
  told_from k threads thread (read key payload ∷ lines) (call ∷ calls) = if k % threads == thread then replied_at k key call.reply ∷ told_from (k + 1) threads thread lines calls else told_from (k + 1) threads thread lines (call ∷ calls)

  abbrev pub told_by : ℕ → ℕ → List (Line Cause) → List Call → List (Answered Cause)
  told_by threads thread lines calls = told_from 0 threads thread lines calls

  -- the answer is to one of this thread's lines
  abbrev pub is_of : ℕ → ℕ → Answered Cause → Bool
  is_of threads thread answered = (answered.line - 1) % threads == thread
