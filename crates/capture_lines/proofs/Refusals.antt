-- Refusals of the lower readers are those of the line.
use Rattle.std.proofs.Common.{◌≡◌, ℕ, List, Option, Some, None, Result, Ok, Err, true, false, refl, sym, ap, ◌∙◌}
use Rattle.serde_json.specs.Data.{Data}
use Rattle.json_fold.specs.declared.fault.FieldError.{FieldError}
use Rattle.json_fold.specs.declared.fault.FieldError.TheVariants as field
use Rattle.json_fold.specs.Fault.{Fault, Refuses}
use Rattle.state_words.specs.declared.state.State.{State}
use Rattle.state_json.specs.declared.text.ParseError.{ParseError}
use Rattle.state_json.specs.declared.text.ParseError.TheVariants as text
use Rattle.state_json.specs.Parsed.{parsed}
use Rattle.capture_lines.specs.declared.error.LineError.{LineError}
use Rattle.capture_lines.specs.declared.error.LineError.TheVariants.{Kind, Float, Json, Field, Code, Memory}
use Rattle.capture_lines.specs.declared.kind.LineKind.{LineKind}
use Rattle.capture_lines.specs.Causes.{of_parse_error, of_field_error}
use Rattle.capture_lines.specs.Cutting.{is_skipped, cut}
use Rattle.capture_lines.specs.Kinds.{kind_of}
use Rattle.capture_lines.specs.Line.{Means, as_some, text_meaning, kind_meaning, cut_meaning, line_meaning}

-- a refusal is that of a reading
pub refused : {A : Type 0} (error : FieldError) (read : Result A Fault) (meaning : Result A Fault → Result State LineError) → ((fault : Fault) → meaning (Err fault) ≡ Err (Field fault.0 fault.1)) → Refuses error read → Means {A = State} (Err (of_field_error error)) (meaning read)
refused field.Memory read meaning said is = tt
refused (field.Bad path cause) read meaning said is = ap meaning is ∙ said (path, cause)

-- the refusal of a text
abbrev pub RefusesText : ParseError → Result Data ParseError → Type 0
RefusesText text.Memory answer = Prim.Unit {0}
RefusesText (text.Float at) answer = answer ≡ Err (text.Float at)
RefusesText text.Json answer = answer ≡ Err text.Json

pub text_refused : (error : ParseError) (kind : LineKind) (answer : Result Data ParseError) → RefusesText error answer → Means {A = State} (Err (of_parse_error error)) (text_meaning kind answer)
text_refused text.Memory kind answer is = tt
text_refused (text.Float at) kind answer is = ap (text_meaning kind) is
text_refused text.Json kind answer is = ap (text_meaning kind) is

-- a refusal of the state is one of the line
pub line_refused : (cause : LineError) (meaning : Result State LineError) (whole : Result (Option State) LineError) → whole ≡ as_some meaning → Means {A = State} (Err cause) meaning → Means {A = Option State} (Err cause) whole
line_refused Memory meaning whole is means = tt
line_refused Kind meaning whole is means = is ∙ ap as_some means
line_refused (Float at) meaning whole is means = is ∙ ap as_some means
line_refused Json meaning whole is means = is ∙ ap as_some means
line_refused (Field path cause) meaning whole is means = is ∙ ap as_some means
line_refused Code meaning whole is means = is ∙ ap as_some means

pub skipped_line : (line : List ℕ) → is_skipped line ≡ true → line_meaning line ≡ Ok None
unfolding line_meaning
skipped_line line skipped = rw skipped refl

pub cut_line : (line : List ℕ) → is_skipped line ≡ false → line_meaning line ≡ as_some (cut_meaning (cut line))
unfolding line_meaning
cut_line line kept = rw kept refl

pub kind_line : (line word text : List ℕ) (kind : LineKind) → is_skipped line ≡ false → cut line ≡ Some (word, text) → kind_of word ≡ Some kind → line_meaning line ≡ as_some (text_meaning kind (parsed text))
kind_line line word text kind kept parts known = cut_line line kept ∙ ap (λ (p : Option (List ℕ × List ℕ)). as_some (cut_meaning p)) parts ∙ ap (λ (k : Option LineKind). as_some (kind_meaning k text)) known
