-- The lines of a capture, as they are read one by one.
use Rattle.std.specs.Prelude.{◌≡◌, List, [], ◌∷◌, Option, Some, None}
use Rattle.record_words.specs.Recorded.{Line, skipped, refused, read}
use Rattle.record_lines.specs.declared.line.NextLine.{NextLine}
use Rattle.record_lines.specs.declared.line.NextLine.TheVariants.{Skipped, Refused, Read}

module _ {Cause : Type 0} where
  abbrev pub line_of : NextLine Cause → Line Cause
  line_of Skipped = skipped
  line_of (Refused cause) = refused cause
  line_of (Read key payload) = read key payload

  -- this is the first of the lines before, and after it come those that are left
  abbrev pub IsNext : List (Line Cause) → Option (NextLine Cause) → List (Line Cause) → Type 0
  IsNext before None after = before ≡ []
  IsNext before (Some line) after = before ≡ line_of line ∷ after
