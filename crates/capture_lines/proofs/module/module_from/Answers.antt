use Rattle.std.proofs.Common.{◌≡◌, [], refl, sym, ap, ◌∙◌}
use Rattle.std.proofs.lemmas.Result.{err_from_is_err_and}
use Rattle.serde_json.specs.View.{view}
use Rattle.vk_form.specs.Shape.{struct}
use Rattle.json_fold.specs.Reading.{reading}
use Rattle.capture_lines.specs.Code.{code_words}
use Rattle.capture_lines.specs.Line.{value_meaning, of_captured, with_words}
use Rattle.capture_lines.specs.Tables as table
use Rattle.capture_lines.proofs.Modules.{module_meaning}
use Rattle.capture_lines.proofs.Refusals.{refused}
use Rattle.capture_lines.proofs.module.module_from.Goals as goal

pub returns-in_err-captured : goal.returns-in_err-captured
unfolding value_meaning
returns-in_err-captured c =
    let p = err_from_is_err_and c.from_residual.result c.from_residual.ensures.1 in
    rw (p.1, p.2) (refused c.in_err-captured.field-0.0 (reading (struct table.captured_module) (view c.args.value.now) []) of_captured (λ fault. refl) c.in_err-captured.ensures)

pub returns-in-Some : goal.returns-in-Some
returns-in-Some c =
    let x = c.in_ok-captured.captured in
    module_meaning (view c.args.value.now) x c.in_ok-words.words c.in_ok-captured.ensures (c.in_ok-words.ensures ∙ ap code_words c.as_slice.ensures) ∙ ap (with_words x.flags) c.in-Some.is

pub returns : goal.returns
returns c =
    let x = c.in_ok-captured.captured in
    module_meaning (view c.args.value.now) x c.in_ok-words.words c.in_ok-captured.ensures (c.in_ok-words.ensures ∙ ap code_words c.as_slice.ensures) ∙ ap (with_words x.flags) c.in-None.is
