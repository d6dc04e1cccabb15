use Rattle.std.proofs.Common.{◌≡◌, ◌+◌, ◌-◌, ◌/◌, ◌<◌, ◌≤◌, ◌⊎◌, inl, inr, length, get_or, take, drop, refl, sym, ◌∙◌, ap, arith}
use Rattle.spirv_check.proofs.Findings.{seen_in-nil}
use Rattle.spirv_check.proofs.Walking.{starts, steps, stops}
use Rattle.spirv_check.proofs.module.walk.Goals as goal
use Rattle.spirv_check.proofs.module.walk.Goals.{then-count-eq0-via-then-count-eq0, then-count-eq0-via-else-count-eq0+then-words-at}

pub loop-at-init : goal.loop-at-init
loop-at-init c = starts c.args.words.now c.new-seen.result c.requires (c.new-seen.ensures ∙ sym seen_in-nil)

pub returns-then-count-eq0 : goal.returns-then-count-eq0
returns-then-count-eq0 c =
    let words = c.args.words.now in
    let at = c.loop-at.at in
    let count = get_or words at 0 / 65536 in
    let bad : (count ≡ 0) ⊎ (length words - at < count) = elim c.then-count-eq0.branch [
      | then-count-eq0-via-then-count-eq0 w ↦ inl w.if-count-eq0.true
      | then-count-eq0-via-else-count-eq0+then-words-at w ↦ inr w.if-words-at.true
    ] in
    inr (at, refl, stops words at count c.loop-at.seen c.requires c.loop-at.invariant c.loop-at-test.true refl bad)

pub loop-at-preserved : goal.loop-at-preserved
loop-at-preserved c =
    let words = c.args.words.now in
    let at = c.loop-at.at in
    let count = get_or words at 0 / 65536 in
    let some : 0 < count = (let other = c.if-count-eq0.false in omega arith) in
    let room : count ≤ length words - at = c.if-words-at.false in
    let same : at + count - at ≡ count = omega arith in
    steps words (take (at + count - at) (drop at words)) at count c.loop-at.seen c.take.new.self c.loop-at.invariant c.loop-at-test.true refl some room
    (ap (λ n. take n (drop at words)) same) c.in_ok-take.ensures
