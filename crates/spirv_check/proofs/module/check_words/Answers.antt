use Rattle.std.proofs.lemmas.Result.{err_from_is_err_and}
use Rattle.spirv_check.proofs.Judging.{header_answers, walk_answers, judge_answers}
use Rattle.spirv_check.proofs.module.check_words.Goals as goal

pub returns-in_err-check_header : goal.returns-in_err-check_header
returns-in_err-check_header c = let p = err_from_is_err_and c.from_residual.result c.from_residual.ensures.1 in rw (p.1, p.2) (header_answers c.args.words.now c.in_err-check_header.field-0.0 c.in_err-check_header.ensures)

pub returns-in_err-walk : goal.returns-in_err-walk
returns-in_err-walk c = let p = err_from_is_err_and c.from_residual-in_err-walk.result c.from_residual-in_err-walk.ensures.1 in rw (p.1, p.2) (walk_answers c.args.words.now c.in_err-walk.field-0.0 c.in_err-walk.ensures)

pub returns : goal.returns
returns c = judge_answers c.args.words.now c.in_ok-walk.field-0 c.judge.result c.in_ok-walk.ensures c.judge.ensures
