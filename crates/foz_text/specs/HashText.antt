-- The text of the command `hash`.
use Rattle.std.specs.Prelude.{ℕ, suc, Bool, true, false, List, [], ◌∷◌, ◌++◌, codes, decimal, Option, Some, None, Result, Ok, Err}
use Rattle.std.specs.List.{list_all}
use Rattle.foz_words.specs.Hex.{hex_text}
use Rattle.state_words.specs.declared.state.State.{State}
use Rattle.state_words.specs.Words.{key_of}
use Rattle.capture_lines.specs.declared.error.LineError.{LineError}
use Rattle.capture_lines.specs.Kinds.{word_of, kind_of_state}
use Rattle.capture_lines.specs.Line.{line_meaning}
use Rattle.input_lines.specs.Lines.{lines_of}
use Rattle.foz_text.specs.LineCause.{line_cause_text}

-- the number of a line, the word of a kind and a hash
abbrev pub hash_words : ℕ → List ℕ → ℕ → List ℕ
hash_words number kind hash = decimal number ++ codes " " ++ kind ++ codes " " ++ hex_text 16 hash ++ codes "\n"

-- the line of a state
abbrev pub hashed_line : ℕ → State → List ℕ
hashed_line number state = hash_words number (word_of (kind_of_state state)) (key_of state).hash

-- the number of a line that can't be read, and why
abbrev pub unhashed_line : ℕ → LineError → List ℕ
unhashed_line number cause = decimal number ++ codes " refused " ++ line_cause_text cause ++ codes "\n"

-- what is printed of a line with this number and this meaning; one that is skipped has no line
abbrev pub hash_line : ℕ → Result (Option State) LineError → List ℕ
hash_line number (Ok None) = []
hash_line number (Ok (Some state)) = hashed_line number state
hash_line number (Err cause) = unhashed_line number cause

-- of lines from this number on
abbrev pub hash_lines : ℕ → List (List ℕ) → List ℕ
hash_lines number [] = []
hash_lines number (line ∷ lines) = hash_line number (line_meaning line) ++ hash_lines (suc number) lines

-- the text of a capture, whose lines are counted from 1
unfoldable pub hash_text : List ℕ → List ℕ
hash_text capture = hash_lines 1 (lines_of capture)

abbrev pub is_read : Result (Option State) LineError → Bool
is_read (Ok found) = true
is_read (Err cause) = false

abbrev pub are_read : List (List ℕ) → Bool
are_read lines = list_all (λ line. is_read (line_meaning line)) lines

-- no line of the capture is refused
unfoldable pub is_readable : List ℕ → Bool
is_readable capture = are_read (lines_of capture)
