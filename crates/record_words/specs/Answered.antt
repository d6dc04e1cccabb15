-- The answers to a capture's lines, by the numbers of the lines.
use Rattle.std.specs.Prelude.{ℕ, suc, List, [], ◌∷◌}
use Rattle.record_words.specs.declared.answered.Answered.{Answered}
use Rattle.record_words.specs.declared.answered.LineAnswer.TheVariants.{Refused, Replied}
use Rattle.record_words.specs.Recorded.{Line, Answer, skipped, refused, read, declined, replied}

module _ {Cause : Type 0} where
  -- of lines from this number on; one that is skipped has no answer
  abbrev pub answered_from : ℕ → List (Line Cause) → List (Answer Cause) → List (Answered Cause)
  answered_from n (skipped ∷ lines) (answer ∷ answers) = answered_from (suc n) lines answers
  answered_from n (refused cause ∷ lines) (declined told ∷ answers) = record { line = n; answer = Refused told } ∷ answered_from (suc n) lines answers
  answered_from n (read key payload ∷ lines) (replied reply on ∷ answers) = record { line = n; answer = Replied key reply } ∷ answered_from (suc n) lines answers
  answered_from n lines answers = []
