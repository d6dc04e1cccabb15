use Rattle.std.proofs.Common.{ℕ, ◌≡◌, List, length, ap, subst, ◌∙◌, arith}
use Rattle.foz_words.proofs.Words.{length-le32}
use Rattle.spirv_check.specs.Names.{AddsName}
use Rattle.std.proofs.Common.{true, false}
use Rattle.spirv_check.proofs.Naming.{adds_none, adds_more, adds_end, adds_all}
use Rattle.spirv_check.proofs.names.ends_in.Goals as goal

pub loop-byte-init : goal.loop-byte-init
loop-byte-init c = adds_none c.args.name.now c.le32_bytes-bytes.result

pub returns-then-byte-eq0 : goal.returns-then-byte-eq0
returns-then-byte-eq0 c =
    let bytes = c.le32_bytes-bytes.ensures in
    let long : length c.le32_bytes-bytes.result ≡ 4 = ap length bytes ∙ length-le32 c.args.word in
    subst (λ (l : List ℕ). AddsName c.args.name.now l true c.loop-byte.name) bytes
    (adds_end c.args.name.now c.le32_bytes-bytes.result c.loop-byte.name c.loop-byte.byte-index (omega arith) c.loop-byte.invariant c.if-byte-eq0.true)

pub loop-byte-preserved : goal.loop-byte-preserved
loop-byte-preserved c =
    let long : length c.le32_bytes-bytes.result ≡ 4 = ap length c.le32_bytes-bytes.ensures ∙ length-le32 c.args.word in
    rw c.in_ok-push.ensures.ok (adds_more c.args.name.now c.le32_bytes-bytes.result c.loop-byte.name c.loop-byte.byte-index (omega arith) c.loop-byte.invariant c.if-byte-eq0.false)

pub returns : goal.returns
returns c =
    let bytes = c.le32_bytes-bytes.ensures in
    let long : length c.le32_bytes-bytes.result ≡ 4 = ap length bytes ∙ length-le32 c.args.word in
    subst (λ (l : List ℕ). AddsName c.args.name.now l false c.loop-byte.name) bytes
    (adds_all c.args.name.now c.le32_bytes-bytes.result c.loop-byte.name c.loop-byte.byte-index (omega arith) c.loop-byte.invariant)
