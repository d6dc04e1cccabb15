use Rattle.std.proofs.Common.{◌∙◌, arith}
use Rattle.std.proofs.lemmas.Result.{err_from_is_err_and}
use Rattle.disk_model.proofs.Pieces.{written_more, written_front}
use Rattle.disk_model.proofs.sink.write_all.Goals as goal

pub returns-in_err-taken-clause-cut_short : goal.returns-in_err-taken-clause-cut_short
returns-in_err-taken-clause-cut_short g c = λ told.
    let p = err_from_is_err_and c.from_residual.result c.from_residual.ensures.1 in
    let front = written_front _ _ _ _ (c.loop-rest.invariant.written told) in
    rw p.1 (front.0, c.in_err-taken.ensures.nothing told ∙ front.1)

pub loop-rest-preserved : goal.loop-rest-preserved
loop-rest-preserved g c = record {
  written = λ told. written_more _ _ _ _ _ _ c.in_ok-taken.taken (c.loop-rest.invariant.written told) (c.in_ok-taken.ensures.taken told) c.split_at.ensures.back;
  counted = omega (arith, c.loop-rest.invariant.counted, c.write.ensures.cause.later);
}
