-- A shader module, read and written.
use Rattle.std.proofs.Common.{◌≡◌, ℕ, List, [], Option, Some, None, Result, Ok, Err, refl, sym, ap, ◌∙◌}
use Rattle.std.specs.Prelude.{IfOk}
use Rattle.serde_json.specs.Data.{Data}
use Rattle.vk_form.specs.Shape.{struct}
use Rattle.json_fold.specs.Fault.{Fault}
use Rattle.json_fold.specs.Reading.{reading}
use Rattle.state_words.specs.declared.state.State.{State}
use Rattle.state_words.specs.declared.state.State.TheVariants.{ShaderModule}
use Rattle.capture_lines.specs.declared.captured.CapturedModule.{CapturedModule}
use Rattle.capture_lines.specs.declared.error.LineError.{LineError}
use Rattle.capture_lines.specs.Code.{code_words}
use Rattle.capture_lines.specs.Line.{value_meaning, of_captured, with_words}
use Rattle.capture_lines.specs.Made as made
use Rattle.capture_lines.specs.Back as back
use Rattle.capture_lines.specs.Plain as plain
use Rattle.capture_lines.specs.Tables as table
use Rattle.capture_lines.specs.declared.kind.LineKind.TheVariants as kinds

-- what a module's words make of a captured module that was read
pub module_meaning : (d : Data) (x : CapturedModule) (words : Option (List ℕ)) → reading (struct table.captured_module) d [] ≡ Ok (plain.captured_module x) → words ≡ code_words x.code → value_meaning kinds.ShaderModule d ≡ with_words x.flags words
unfolding value_meaning
module_meaning d x words read is =
    ap of_captured read
    ∙ ap (λ (y : CapturedModule). with_words y.flags (code_words y.code)) (back.captured_module x)
    ∙ ap (with_words x.flags) (sym is)

-- what holds of a result's value holds of what follows from it
pub if_ok : {A E : Type 0} (P Q : A → Type 0) (r : Result A E) → ((x : A) → P x → Q x) → IfOk r P → IfOk r Q
if_ok P Q (Ok x) follows is = follows x is
if_ok P Q (Err e) follows is = tt
