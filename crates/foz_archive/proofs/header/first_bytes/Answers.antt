use Rattle.std.proofs.Common.{length, inl, inr, arith}
use Rattle.std.proofs.lemmas.Bool.{cases_lt}
use Rattle.foz_archive.proofs.FirstBytes.{filled_more, filled_all, filled_full}
use Rattle.foz_archive.proofs.header.first_bytes.Goals as goal

pub loop-place-preserved : goal.loop-place-preserved
loop-place-preserved c = filled_more _ _ _ (omega arith) (omega arith) c.loop-place.invariant

pub returns : goal.returns
returns c = elim (cases_lt (length c.args.bytes.now) 16) [
  | inl lt ↦ filled_all c.loop-place.place _ _ (omega arith) (omega arith) (omega arith) c.loop-place.invariant
  | inr le ↦ filled_full _ _ c.loop-place.place (omega arith) (omega arith) c.loop-place.invariant
]
