use Rattle.std.proofs.Common.{ap, arith, refl, length, take, length-append, length-take}
use Rattle.foz_base.proofs.InputRead.{read_more, too_long, all_read}
use Rattle.foz_base.proofs.input.read_input.Goals as goal

pub returns-then-given-eq0-clause-reads : goal.returns-then-given-eq0-clause-reads
returns-then-given-eq0-clause-reads g c = λ told.
    let k = c.in-Ok-read.ensures in
    all_read _ _ _ _ _ _ (c.pieces.invariant.read told) (k.bytes told) c.if-given-eq0.true
    (k.end told c.if-given-eq0.true (omega (arith, c.pieces.invariant.buffer))) c.pieces.invariant.short _ c.from_vec.ensures

pub returns-then-given-len-clause-reads : goal.returns-then-given-len-clause-reads
returns-then-given-len-clause-reads g c = λ told.
    let k = c.in-Ok-read.ensures in
    let kept = c.read.auto.buf in
    too_long _ c.pieces.bytes.items _ c.read.new.buf _ c.in-Ok-read.given (c.pieces.invariant.read told) (k.bytes told) (omega (arith, kept, k.given)) c.pieces.invariant.short
    (let long = c.if-given-len.true in let is = c.len.ensures in omega arith)

pub pieces-preserved : goal.pieces-preserved
pieces-preserved g c =
    let k = c.in-Ok-read.ensures in
    let kept = c.read.auto.buf in
    let grown = c.in-Ok-extend_from_slice.ensures.items in
    let fits = c.if-given-len.false in
    let len = c.len.ensures in
    record {
      read = λ told. read_more _ _ _ _ _ _ (c.pieces.invariant.read told) (k.bytes told) _ _ grown refl;
      short = omega (
        arith,
        ap length grown,
        length-append c.pieces.bytes.items (take c.in-Ok-read.given c.read.new.buf),
        length-take c.in-Ok-read.given c.read.new.buf,
        c.pieces.invariant.short,
        fits,
        len,
      );
      buffer = omega (arith, kept, c.pieces.invariant.buffer);
      counted = omega (arith, c.pieces.invariant.counted, k.cause.later);
    }
