use Rattle.std.proofs.Common.{◌∙◌, arith}
use Rattle.std.proofs.lemmas.Result.{err_from_is_err_and}
use Rattle.replay_text.specs.Lines.{line_at}
use Rattle.replay_text.proofs.Ranges.{line_more}
use Rattle.replay_text.proofs.Texts.{text_is}
use Rattle.report_words.proofs.Fronts.{front_more, front_same}
use Rattle.replay_text.proofs.text.push_all.Goals as goal

pub loop-index-preserved : goal.loop-index-preserved
loop-index-preserved c = record {
  text = line_more (line_at c.args.entries.now c.args.graph.now c.args.verdicts.now) _ _ _ c.loop-index.index c.loop-index.invariant.text c.in_ok-push_line.ensures.line;
}

pub returns-in_err-push_line-clause-front : goal.returns-in_err-push_line-clause-front
returns-in_err-push_line-clause-front c =
    rw (err_from_is_err_and c.from_residual.result c.from_residual.ensures.1).1 (record { rest = _; is = c.in_err-push_line.ensures.refused ∙ c.loop-index.invariant.text })

pub returns-in_err-push_verdict_counts-clause-front : goal.returns-in_err-push_verdict_counts-clause-front
returns-in_err-push_verdict_counts-clause-front c =
    rw (err_from_is_err_and c.from_residual-in_err-push_verdict_counts.result c.from_residual-in_err-push_verdict_counts.ensures.1).1
    (record { rest = _; is = c.in_err-push_verdict_counts.ensures.refused ∙ c.loop-index.invariant.text })

pub returns-in_err-push_event_counts-clause-front : goal.returns-in_err-push_event_counts-clause-front
returns-in_err-push_event_counts-clause-front c =
    rw (err_from_is_err_and c.from_residual-in_err-push_event_counts.result c.from_residual-in_err-push_event_counts.ensures.1).1
    (front_same _ _ _ c.in_err-push_event_counts.ensures.refused (front_more _ _ _ _ c.in_ok-push_verdict_counts.ensures.line (record { rest = _; is = c.loop-index.invariant.text })))

pub returns-clause-text : goal.returns-clause-text
returns-clause-text c =
    let past = c.loop-index-test.false in
    let within = c.loop-index.auto.index-end in
    text_is c.args.entries.now c.args.graph.now c.args.verdicts.now c.args.events.now _ _ _ _ c.loop-index.index (omega arith) c.loop-index.invariant.text c.in_ok-push_verdict_counts.ensures.line c.in_ok-push_event_counts.ensures.line
