-- The words of why a line of a capture can't be read.
use Rattle.std.specs.Prelude.{ℕ, List, [], ◌++◌, codes, decimal}
use Rattle.report_words.specs.Words.{field_word}
use Rattle.capture_lines.specs.declared.error.LineError.{LineError}
use Rattle.capture_lines.specs.declared.error.LineError.TheVariants.{Kind, Float, Json, Field, Code, Memory}

-- No line is refused for running out of memory, so that has no words.
unfoldable pub line_cause_text : LineError → List ℕ
line_cause_text Kind = codes "kind"
line_cause_text (Float at) = codes "float " ++ decimal at
line_cause_text Json = codes "json"
line_cause_text (Field path cause) = codes "field " ++ path ++ codes " " ++ field_word cause
line_cause_text Code = codes "code"
line_cause_text Memory = []
