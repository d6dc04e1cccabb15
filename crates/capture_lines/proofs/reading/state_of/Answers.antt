use Rattle.std.proofs.Common.{◌≡◌, [], refl, sym, ap, ◌∙◌}
use Rattle.std.proofs.lemmas.Result.{err_from_is_err_and}
use Rattle.serde_json.specs.View.{view}
use Rattle.state_json.specs.States.{state_reading}
use Rattle.capture_lines.specs.Line.{value_meaning, of_state}
use Rattle.capture_lines.proofs.Refusals.{refused}
use Rattle.capture_lines.proofs.reading.state_of.Goals as goal

pub returns-in_err-state_from-in-Object : goal.returns-in_err-state_from-in-Object
unfolding value_meaning
returns-in_err-state_from-in-Object c =
    let p = err_from_is_err_and c.from_residual.result c.from_residual.ensures.1 in
    rw (c.in-Object.is, p.1, p.2) (refused c.in_err-state_from-in-Object.field-0.0 (state_reading c.in-Object.kind (view c.args.value.now) []) of_state (λ fault. refl) c.in_err-state_from-in-Object.ensures)

pub returns-in_ok-state_from-in-Object : goal.returns-in_ok-state_from-in-Object
unfolding value_meaning
returns-in_ok-state_from-in-Object c = rw c.in-Object.is (ap of_state c.in_ok-state_from-in-Object.ensures)
