use Rattle.std.proofs.Common.{◌≡◌, ◌^◌, ◌<◌, ◌≤◌, ◌≢◌, length, get_or, subst, ◌∙◌, arith}
use Rattle.spirv_varint.specs.Varint.{number_of}
use Rattle.spirv_varint.proofs.Numbers.{number_below}
use Rattle.spirv_varint.proofs.Loop.{begin, extra, too_large, goes_on, ends}
use Rattle.spirv_varint.proofs.reading.read.Goals as goal
use Rattle.spirv_varint.proofs.reading.read.Goals.{then-byte-lt128+in_ok-push, else-byte-lt128, else-taken-eq4-via-then-taken-eq4+else-byte-gt15, else-taken-eq4-via-else-taken-eq4}

pub loop-at-init : goal.loop-at-init
loop-at-init c = rw c.new-found.ensures (begin c.args.words)

pub returns-then-len-words : goal.returns-then-len-words
returns-then-len-words c = extra c.args.bytes.now c.loop-at.found c.loop-at.word c.loop-at.taken c.args.words c.loop-at.at c.loop-at.invariant c.loop-at-test.true (omega arith)

pub returns-then-byte-gt15 : goal.returns-then-byte-gt15
returns-then-byte-gt15 c = too_large c.args.bytes.now c.loop-at.found c.loop-at.word c.loop-at.taken c.args.words c.loop-at.at c.loop-at.invariant c.loop-at-test.true (λ same. absurd (c.if-len-words.false (c.len.ensures ∙ same))) (omega arith) (omega arith)

pub with_bits-word-requires-clause-word : goal.with_bits-word-requires-clause-word
with_bits-word-requires-clause-word c =
    let b = c.loop-at.invariant in
    rw b.value (subst (λ n. number_of b.front < 128 ^ n) b.size (number_below b.front))

fifth : (c : goal.Joined-byte-lt128) → c.loop-at.taken ≡ 4 → get_or c.args.bytes.now c.loop-at.at 0 ≤ 15
fifth c four =
    elim c.else-taken-eq4.branch [
      | else-taken-eq4-via-then-taken-eq4+else-byte-gt15 w ↦ omega arith
      | else-taken-eq4-via-else-taken-eq4 w ↦ omega arith
    ]

pub loop-at-preserved : goal.loop-at-preserved
loop-at-preserved c =
    let fewer : length c.loop-at.found ≢ c.args.words = λ same. c.if-len-words.false (c.len.ensures ∙ same) in
    elim c.if-byte-lt128.branch [
      | then-byte-lt128+in_ok-push w ↦ rw (w.found-is, w.word-is, w.taken-is, w.in_ok-push.ensures.ok) (ends c.args.bytes.now c.loop-at.found c.loop-at.word c.loop-at.taken c.args.words c.loop-at.at c.with_bits-word.result c.loop-at.invariant c.loop-at-test.true fewer (fifth c) c.with_bits-word.ensures (omega arith))
      | else-byte-lt128 w ↦ rw (w.found-is, w.word-is, w.taken-is) (goes_on c.args.bytes.now c.loop-at.found c.loop-at.word c.loop-at.taken c.args.words c.loop-at.at c.with_bits-word.result c.loop-at.invariant c.loop-at-test.true fewer (fifth c) c.with_bits-word.ensures (omega arith) (omega (arith, c.type_inv.bytes c.loop-at.at)))
    ]
