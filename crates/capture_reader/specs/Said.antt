-- What the lines of an input say to a recorder.
use Rattle.std.specs.Prelude.{ℕ, List, map, Option, Some, None, Result, Ok, Err}
use Rattle.state_words.specs.declared.state.State.{State}
use Rattle.state_words.specs.Words.{key_of}
use Rattle.foz_payload.specs.Payload.{payload}
use Rattle.capture_lines.specs.declared.error.LineError.{LineError}
use Rattle.capture_lines.specs.Line.{line_meaning}
use Rattle.record_words.specs.Recorded.{Line, skipped, refused, read}
use Rattle.input_lines.specs.Lines.{lines_of}

-- a state is recorded under its key, as its payload
abbrev pub said : Result (Option State) LineError → Line LineError
said (Ok None) = skipped
said (Ok (Some state)) = read (key_of state) (payload state)
said (Err cause) = refused cause

abbrev pub line_said : List ℕ → Line LineError
line_said line = said (line_meaning line)

-- the lines of an input, as they are read
abbrev pub lines_said : List ℕ → List (Line LineError)
lines_said input = map line_said (lines_of input)
