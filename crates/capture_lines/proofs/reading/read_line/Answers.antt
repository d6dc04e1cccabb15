use Rattle.std.proofs.Common.{◌≡◌, ℕ, List, Option, Some, None, refl, sym, ap, ◌∙◌}
use Rattle.std.proofs.lemmas.Result.{err_from_is_err_and}
use Rattle.serde_json.specs.View.{view}
use Rattle.state_json.specs.Parsed.{parsed}
use Rattle.capture_lines.specs.Line.{as_some, cut_meaning, kind_meaning, text_meaning, value_meaning}
use Rattle.capture_lines.specs.declared.kind.LineKind.{LineKind}
use Rattle.capture_lines.proofs.Refusals.{skipped_line, cut_line, kind_line, text_refused, line_refused}
use Rattle.capture_lines.proofs.Ordinary.{line_ordinary, line_few}
use Rattle.capture_lines.proofs.reading.read_line.Goals as goal

pub returns-then-is_skipped-clause-meant : goal.returns-then-is_skipped-clause-meant
returns-then-is_skipped-clause-meant c = skipped_line c.args.line.now (sym c.is_skipped.ensures ∙ c.if-is_skipped.true)

pub returns-in_default-clause-meant : goal.returns-in_default-clause-meant
returns-in_default-clause-meant c =
    let kept = sym c.is_skipped.ensures ∙ c.if-is_skipped.false in
    cut_line c.args.line.now kept ∙ ap (λ (p : Option (List ℕ × List ℕ)). as_some (cut_meaning p)) (sym c.in_default.ensures)

pub returns-in_default-kind_of-clause-meant : goal.returns-in_default-kind_of-clause-meant
returns-in_default-kind_of-clause-meant c =
    let kept = sym c.is_skipped.ensures ∙ c.if-is_skipped.false in
    cut_line c.args.line.now kept
    ∙ ap (λ (p : Option (List ℕ × List ℕ)). as_some (cut_meaning p)) (sym c.in-Some.ensures)
    ∙ ap (λ (k : Option LineKind). as_some (kind_meaning k c.in-Some.text.now)) (sym c.in_default-kind_of.ensures)

pub returns-in_err-value-clause-meant : goal.returns-in_err-value-clause-meant
returns-in_err-value-clause-meant c =
    let p = err_from_is_err_and c.from_residual.result c.from_residual.ensures.1 in
    let kept = sym c.is_skipped.ensures ∙ c.if-is_skipped.false in
    let kind = c.in-Some-kind_of.kind in
    let text = c.in-Some.text.now in
    let is = kind_line c.args.line.now c.in-Some.word.now text kind kept (sym c.in-Some.ensures) (sym c.in-Some-kind_of.ensures) in
    rw (p.1, p.2) (line_refused _ (text_meaning kind (parsed text)) _ is (text_refused c.in_err-value.field-0.0 kind (parsed text) c.in_err-value.ensures))

pub returns-in_err-state_of-clause-meant : goal.returns-in_err-state_of-clause-meant
returns-in_err-state_of-clause-meant c =
    let p = err_from_is_err_and c.from_residual-in_err-state_of.result c.from_residual-in_err-state_of.ensures.1 in
    let kept = sym c.is_skipped.ensures ∙ c.if-is_skipped.false in
    let kind = c.in-Some-kind_of.kind in
    let text = c.in-Some.text.now in
    let is = kind_line c.args.line.now c.in-Some.word.now text kind kept (sym c.in-Some.ensures) (sym c.in-Some-kind_of.ensures) ∙ ap (λ answer. as_some (text_meaning kind answer)) c.in_ok-value.ensures in
    rw (p.1, p.2) (line_refused _ (value_meaning kind (view c.in_ok-value.value)) _ is c.in_err-state_of.ensures)

pub returns-clause-meant : goal.returns-clause-meant
returns-clause-meant c =
    let kept = sym c.is_skipped.ensures ∙ c.if-is_skipped.false in
    let kind = c.in-Some-kind_of.kind in
    let text = c.in-Some.text.now in
    let is = kind_line c.args.line.now c.in-Some.word.now text kind kept (sym c.in-Some.ensures) (sym c.in-Some-kind_of.ensures) ∙ ap (λ answer. as_some (text_meaning kind answer)) c.in_ok-value.ensures in
    is ∙ ap as_some c.in_ok-state_of.ensures

pub returns-clause-ordinary : goal.returns-clause-ordinary
returns-clause-ordinary c = λ short.
    line_ordinary c.args.line.now c.in-Some.word.now c.in-Some.text.now c.in-Some-kind_of.kind (view c.in_ok-value.value) _ (sym c.in-Some.ensures) c.in_ok-value.ensures c.in_ok-state_of.ensures short

pub returns-clause-few : goal.returns-clause-few
returns-clause-few c = λ short.
    line_few c.args.line.now c.in-Some.word.now c.in-Some.text.now c.in-Some-kind_of.kind (view c.in_ok-value.value) _ (sym c.in-Some.ensures) c.in_ok-value.ensures c.in_ok-state_of.ensures short
