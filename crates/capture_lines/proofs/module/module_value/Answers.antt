use Rattle.std.proofs.Common.{◌≡◌, [], Ok, Some, refl, sym, ap, ◌∙◌}
use Rattle.serde_json.specs.Data.{Data}
use Rattle.serde_json.specs.View.{view}
use Rattle.serde_json.specs.declared.value.Value.{Value}
use Rattle.vk_form.specs.Shape.{struct}
use Rattle.json_fold.specs.Reading.{reading}
use Rattle.json_fold.specs.Written.{written}
use Rattle.capture_lines.specs.declared.captured.CapturedModule.{CapturedModule}
use Rattle.capture_lines.specs.Code.{code_bytes}
use Rattle.capture_lines.specs.Plain as plain
use Rattle.capture_lines.specs.Tables as table
use Rattle.capture_lines.specs.Writing.{captured, line_object}
use Rattle.capture_lines.proofs.Modules.{module_meaning, if_ok}
use Rattle.capture_lines.proofs.module.module_value.Goals as goal

pub returns-clause-object : goal.returns-clause-object
unfolding line_object
returns-clause-object c =
    let shader = c.args.shader.now in
    let x : CapturedModule = record { flags = shader.flags; code = c.in_ok-bytes_of_words.field-0 } in
    let is : x ≡ captured shader = ap (λ code. record { flags = shader.flags; code = code }) (c.in_ok-bytes_of_words.ensures.bytes ∙ ap code_bytes c.as_slice.ensures) in
    if_ok (λ (v : Value). view v ≡ written (struct table.captured_module) (plain.captured_module x)) _ c.to_json.result (λ v h. h ∙ ap (λ (y : CapturedModule). written (struct table.captured_module) (plain.captured_module y)) is) c.to_json.ensures.written

pub returns-clause-again : goal.returns-clause-again
returns-clause-again c =
    let shader = c.args.shader.now in
    let x : CapturedModule = record { flags = shader.flags; code = c.in_ok-bytes_of_words.field-0 } in
    let words = c.in_ok-bytes_of_words.ensures.read_again ∙ ap Some c.as_slice.ensures in
    if_ok _ _ c.to_json.result (λ v h. module_meaning (view v) x (Some shader.code) (h []) (sym words)) c.to_json.ensures.reads_back
