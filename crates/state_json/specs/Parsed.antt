-- The JSON value that a text is once its floats are folded, or why there is none.
use Rattle.std.specs.Prelude.{◌≡◌, ℕ, List, Option, Some, None, Result, Ok, Err, if◌then◌else◌, ⊤}
use Rattle.std.specs.Str.{is_utf8}
use Rattle.float_fold.specs.Folding.{folded}
use Rattle.serde_json.specs.Data.{Data}
use Rattle.serde_json.specs.Read.{read}
use Rattle.serde_json.specs.View.{view}
use Rattle.serde_json.specs.declared.value.Value.{Value}
use Rattle.state_json.specs.declared.text.ParseError.{ParseError}
use Rattle.state_json.specs.declared.text.ParseError.TheVariants.{Float, Json, Memory}

-- the value that serde_json reads in UTF-8
abbrev pub value_of_text : List ℕ → Option Data
value_of_text text = if is_utf8 text then read text else None

abbrev pub or_json : Option Data → Result Data ParseError
or_json (Some value) = Ok value
or_json None = Err Json

abbrev pub of_folded : Result (List ℕ) ℕ → Result Data ParseError
of_folded (Ok text) = or_json (value_of_text text)
of_folded (Err at) = Err (Float at)

unfoldable pub parsed : List ℕ → Result Data ParseError
parsed text = of_folded (folded text)

-- What a function returned is this answer, unless memory ran out.
abbrev pub Parses : Result Value ParseError → Result Data ParseError → Type 0
Parses (Ok value) answer = answer ≡ Ok (view value)
Parses (Err Memory) answer = ⊤
Parses (Err cause) answer = answer ≡ Err cause
