-- What a capture line means: a state, nothing, or why it is refused.
use Rattle.std.specs.Prelude.{◌≡◌, ℕ, List, [], Option, Some, None, Result, Ok, Err, if◌then◌else◌, ⊤}
use Rattle.serde_json.specs.Data.{Data}
use Rattle.serde_json.specs.View.{view}
use Rattle.vk_form.specs.Shape.{struct, Plains}
use Rattle.vk_basic.specs.declared.shader_module.ShaderModule as modules
use Rattle.json_fold.specs.Fault.{Fault}
use Rattle.json_fold.specs.Reading.{reading}
use Rattle.state_words.specs.declared.state.State.{State}
use Rattle.state_words.specs.declared.state.State.TheVariants as state
use Rattle.state_json.specs.declared.text.ParseError.{ParseError}
use Rattle.state_json.specs.Parsed.{parsed}
use Rattle.state_json.specs.States.{state_reading}
use Rattle.capture_lines.specs.declared.error.LineError.{LineError}
use Rattle.capture_lines.specs.declared.error.LineError.TheVariants.{Kind, Field, Code, Memory}
use Rattle.capture_lines.specs.declared.kind.LineKind.{LineKind}
use Rattle.capture_lines.specs.declared.kind.LineKind.TheVariants.{Object, ShaderModule}
use Rattle.capture_lines.specs.Causes.{of_parse_error}
use Rattle.capture_lines.specs.Cutting.{is_skipped, cut}
use Rattle.capture_lines.specs.Code.{code_words}
use Rattle.capture_lines.specs.Kinds.{kind_of}
use Rattle.capture_lines.specs.Made as made
use Rattle.capture_lines.specs.Tables as table

abbrev pub of_fault : {A : Type 0} → Fault → Result A LineError
of_fault fault = Err (Field fault.0 fault.1)

-- the module with these words, if the code is a whole number of words
abbrev pub with_words : ℕ → Option (List ℕ) → Result State LineError
with_words flags (Some words) = Ok (state.ShaderModule (record { flags = flags; code = words }))
with_words flags None = Err Code

abbrev pub of_state : Result State Fault → Result State LineError
of_state (Ok s) = Ok s
of_state (Err fault) = of_fault fault

abbrev pub of_captured : Result (Plains table.captured_module) Fault → Result State LineError
of_captured (Ok x) = with_words (made.captured_module x).flags (code_words (made.captured_module x).code)
of_captured (Err fault) = of_fault fault

-- the state that a value of this kind is
unfoldable pub value_meaning : LineKind → Data → Result State LineError
value_meaning (Object kind) value = of_state (state_reading kind value [])
value_meaning ShaderModule value = of_captured (reading (struct table.captured_module) value [])

abbrev pub text_meaning : LineKind → Result Data ParseError → Result State LineError
text_meaning kind (Ok value) = value_meaning kind value
text_meaning kind (Err cause) = Err (of_parse_error cause)

abbrev pub kind_meaning : Option LineKind → List ℕ → Result State LineError
kind_meaning (Some kind) text = text_meaning kind (parsed text)
kind_meaning None text = Err Kind

abbrev pub cut_meaning : Option (List ℕ × List ℕ) → Result State LineError
cut_meaning (Some parts) = kind_meaning (kind_of parts.0) parts.1
cut_meaning None = Err Kind

abbrev pub as_some : Result State LineError → Result (Option State) LineError
as_some (Ok s) = Ok (Some s)
as_some (Err cause) = Err cause

-- The line comes without its line feed.
unfoldable pub line_meaning : List ℕ → Result (Option State) LineError
line_meaning line = if is_skipped line then Ok None else as_some (cut_meaning (cut line))

-- What a function returned is this meaning, unless memory ran out.
abbrev pub Means : {A : Type 0} → Result A LineError → Result A LineError → Type 0
Means (Ok x) meaning = meaning ≡ Ok x
Means (Err Memory) meaning = ⊤
Means (Err cause) meaning = meaning ≡ Err cause

-- the same, of a shader module
abbrev pub MeansModule : Result modules.ShaderModule LineError → Result State LineError → Type 0
MeansModule (Ok x) meaning = meaning ≡ Ok (state.ShaderModule x)
MeansModule (Err cause) meaning = Means {A = State} (Err cause) meaning
