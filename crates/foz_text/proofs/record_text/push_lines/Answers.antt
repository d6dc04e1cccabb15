use Rattle.std.proofs.Common.{◌∙◌}
use Rattle.std.proofs.lemmas.Result.{err_from_is_err_and}
use Rattle.foz_text.proofs.RecordLines.{lines_more, lines_all}
use Rattle.foz_text.proofs.record_text.push_lines.Goals as goal

pub returns-in_err-push_line-clause-front : goal.returns-in_err-push_line-clause-front
returns-in_err-push_line-clause-front g c =
    rw (err_from_is_err_and c.from_residual.result c.from_residual.ensures.1).1 (record { rest = _; is = c.in_err-push_line.ensures.refused ∙ c.loop-answered.invariant.text })

pub loop-answered-preserved : goal.loop-answered-preserved
loop-answered-preserved g c = record {
  text = lines_more g.C.CauseText.text _ _ _ _ c.loop-answered.answered-index c.answered-item.result c.loop-answered-test.true c.answered-item.is c.loop-answered.invariant.text c.in_ok-push_line.ensures.line;
}

pub returns-in_err-push_summary-clause-front : goal.returns-in_err-push_summary-clause-front
returns-in_err-push_summary-clause-front g c =
    rw (err_from_is_err_and c.from_residual-in_err-push_summary.result c.from_residual-in_err-push_summary.ensures.1).1 (record { rest = _; is = c.in_err-push_summary.ensures.refused ∙ c.loop-answered.invariant.text })

pub returns-clause-text : goal.returns-clause-text
returns-clause-text g c = lines_all g.C.CauseText.text _ _ _ c.args.answers.now c.loop-answered.answered-index _ c.loop-answered-test.false c.loop-answered.invariant.text c.in_ok-push_summary.ensures.line
