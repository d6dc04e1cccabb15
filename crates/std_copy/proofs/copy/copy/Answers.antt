use Rattle.std.proofs.Common.{refl, arith}
use Rattle.std_copy.proofs.Copied.{copied_none, copied_prefix, copied_all, copied_part}
use Rattle.std_copy.proofs.copy.copy.Goals as goal

pub pieces-init : goal.pieces-init
pieces-init g c = record { copied = λ _ _. copied_none _ _; buffer = refl; reads = omega arith; writes = omega arith }

pub returns-in_default-clause-cut_short : goal.returns-in_default-clause-cut_short
returns-in_default-clause-cut_short g c = λ read written. copied_prefix _ _ _ _ (c.pieces.invariant.copied read written)

pub returns-then-given-eq0-clause-whole : goal.returns-then-given-eq0-clause-whole
returns-then-given-eq0-clause-whole g c = λ read written.
    copied_all _ _ _ _ (c.pieces.invariant.copied read written) (c.in-Ok.ensures.end read c.if-given-eq0.true (omega (arith, c.pieces.invariant.buffer)))

pub returns-in_default-write_all-clause-cut_short : goal.returns-in_default-write_all-clause-cut_short
returns-in_default-write_all-clause-cut_short g c = λ read written.
    let cut = c.in_default-write_all.ensures.cut_short written in
    copied_part _ _ _ _ (c.pieces.invariant.copied read written) _ _ _ (c.in-Ok.ensures.bytes read) cut.0 cut.1
