use Rattle.std.proofs.Common.{◌≡◌, ℕ, length, subst, arith}
use Rattle.record_team.proofs.Merging.{HasMerged, merge_step, merged_at_end}
use Rattle.record_team.proofs.merge.merged.Goals as goal

pub loop-number-preserved : goal.loop-number-preserved
loop-number-preserved g c =
    let same = c.loop-number.invariant.same in
    let taken = rw same at c.take_answer-answered.ensures.taken in
    let others = rw same at c.take_answer-answered.ensures.others in
    record {
      same = omega (arith, same, c.take_answer-answered.auto.told);
      merged = λ whole rise parts.
          rw c.in_ok-add.ensures
          (merge_step (length c.args.told.now) c.loop-number.number c.args.count c.requires.some.0 whole c.loop-number.told c.take_answer-answered.new.told c.loop-number.all others c.take_answer-answered.result taken (c.loop-number.invariant.merged whole rise parts));
    }

pub returns : goal.returns
returns g c = λ whole rise parts.
    let n : c.loop-number.number ≡ c.args.count = omega (arith, c.loop-number.auto.number-end, c.loop-number-test.false) in
    merged_at_end (length c.args.told.now) c.args.count whole c.loop-number.told c.loop-number.all
    (subst (λ (z : ℕ). HasMerged (length c.args.told.now) z c.args.count whole c.loop-number.told c.loop-number.all) n (c.loop-number.invariant.merged whole rise parts))
