use Rattle.std.proofs.Common.{◌∙◌, inr, ap, refl, arith}
use Rattle.record_dedup.specs.Kept.{Booked}
use Rattle.record_lines.specs.Lines.{line_of}
use Rattle.record_lines.proofs.Batches.{then_batches, rests, same_history}
use Rattle.record_lines.proofs.SoFar.{one_waits, all_recorded, so_much_more, more_recorded, left_after, batch_leaves, flush_leaves, start}
use Rattle.record_lines.proofs.recording.record_lines.Goals as goal

pub returns-in_err-unwritten-clause-prefix : goal.returns-in_err-unwritten-clause-prefix
returns-in_err-unwritten-clause-prefix g c =
    let next = rw c.in-Some.is at c.in_ok-line.ensures.line in
    more_recorded _ _ _ _ _ _ _ _ c.loop-answers.invariant.so_far (line_of c.in-Some.line) _ next _ c.in_err-unwritten.ensures.refused

pub returns-in_err-unwritten-clause-few_wait : goal.returns-in_err-unwritten-clause-few_wait
returns-in_err-unwritten-clause-few_wait g c =
    one_waits _ _ (line_of c.in-Some.line) _ _ _ _ c.in_err-unwritten.ensures.refused (ap (λ (b : Booked _). b.flushed) c.answer.ensures.same) c.loop-answers.invariant.wait c.loop-answers.invariant.few

pub returns-in_err-unwritten-clause-batches : goal.returns-in_err-unwritten-clause-batches
returns-in_err-unwritten-clause-batches g c told durable =
    let d = g.D.Disk in
    same_history _ _ _ _ _ (ap (λ (b : Booked _). d.history b.disk) c.answer.ensures.same) (c.loop-answers.invariant.images told durable)

pub returns-in_err-unwritten-2-clause-prefix : goal.returns-in_err-unwritten-2-clause-prefix
returns-in_err-unwritten-2-clause-prefix g c =
    let next = rw c.in-Some.is at c.in_ok-line.ensures.line in
    more_recorded _ _ _ _ _ _ _ _ c.loop-answers.invariant.so_far (line_of c.in-Some.line) _ next _ (inr (c.write_full.ensures.entries ∙ c.in_ok-unwritten.ensures.recorded))

pub returns-in_err-unwritten-2-clause-batches : goal.returns-in_err-unwritten-2-clause-batches
returns-in_err-unwritten-2-clause-batches g c told durable =
    let d = g.D.Disk in
    let next = rw c.in-Some.is at c.in_ok-line.ensures.line in
    let ok = c.in_ok-unwritten.ensures in
    let grown = so_much_more _ _ _ _ _ _ _ _ c.loop-answers.invariant.so_far (line_of c.in-Some.line) _ next _ _ _ _ _ refl ok.recorded ok.answered (ap (λ (b : Booked _). b.flushed) c.answer.ensures.same) ok.counted in
    batch_leaves _ _ _ _ _ _ _ _ grown _ (d.history c.answer.new.book.disk) _ (omega (arith, ok.one, c.loop-answers.invariant.few))
    (same_history _ _ _ _ _ (ap (λ (b : Booked _). d.history b.disk) c.answer.ensures.same) (c.loop-answers.invariant.images told durable))
    (λ few. ap (λ (b : Booked _). d.history b.disk) (c.write_full.ensures.idle few)) (c.write_full.ensures.any_moment told)

pub loop-answers-preserved : goal.loop-answers-preserved
loop-answers-preserved g c =
    let d = g.D.Disk in
    let next = rw c.in-Some.is at c.in_ok-line.ensures.line in
    let ok = c.in_ok-unwritten.ensures in
    let wrote = c.in_ok-unwritten-2.ensures in
    let flushed = ap (λ (b : Booked _). b.flushed) c.answer.ensures.same in
    let faults = ap (λ (b : Booked _). d.faults b.disk) c.answer.ensures.same in
    let grown = so_much_more _ _ _ _ _ _ _ _ c.loop-answers.invariant.so_far (line_of c.in-Some.line) _ next _ _ _ _ _ refl ok.recorded ok.answered flushed ok.counted in
    record {
      so_far = rw c.write_full.ensures.entries (left_after _ _ _ _ _ _ _ _ grown _ _ wrote.batch);
      images = λ told durable.
          batch_leaves _ _ _ _ _ _ _ _ grown _ (d.history c.answer.new.book.disk) _ (omega (arith, ok.one, c.loop-answers.invariant.few))
          (same_history _ _ _ _ _ (ap (λ (b : Booked _). d.history b.disk) c.answer.ensures.same) (c.loop-answers.invariant.images told durable))
          (λ few. ap (λ (b : Booked _). d.history b.disk) (c.write_full.ensures.idle few)) (c.write_full.ensures.any_moment told);
      whole = wrote.whole;
      few = wrote.left;
      wait = wrote.wait (omega (arith, ok.few, c.loop-answers.invariant.wait, flushed));
      began = c.write_full.ensures.same.0 ∙ (ap (λ (b : Booked _). b.began) c.answer.ensures.same ∙ c.loop-answers.invariant.began);
      opened = c.write_full.ensures.same.1 ∙ (ap (λ (b : Booked _). b.opened) c.answer.ensures.same ∙ c.loop-answers.invariant.opened);
      later = omega (arith, faults, c.write_full.ensures.later, c.loop-answers.invariant.later);
    }

pub loop-answers-init : goal.loop-answers-init
loop-answers-init g c = record {
  so_far = start _ _ _ c.requires.flushed _ c.new-answers.ensures;
  images = λ told durable. rests _ _ _ durable;
  whole = c.requires.whole;
  few = omega arith;
  wait = omega (arith, c.requires.flushed);
  began = refl;
  opened = refl;
  later = omega arith;
}

pub returns-in_err-entries-clause-batches : goal.returns-in_err-entries-clause-batches
returns-in_err-entries-clause-batches g c told durable =
    let none = rw c.in_default.is at c.in_ok-line.ensures.line in
    then_batches _ _ _ _ _ (c.loop-answers.invariant.images told durable)
    (flush_leaves _ _ _ _ _ _ _ _ c.loop-answers.invariant.so_far _ _ (inr (none, omega (arith, c.loop-answers.invariant.few))) (c.flush.ensures.any_moment told))

pub returns-clause-batches : goal.returns-clause-batches
returns-clause-batches g c told durable =
    let none = rw c.in_default.is at c.in_ok-line.ensures.line in
    then_batches _ _ _ _ _ (c.loop-answers.invariant.images told durable)
    (flush_leaves _ _ _ _ _ _ _ _ c.loop-answers.invariant.so_far _ _ (inr (none, omega (arith, c.loop-answers.invariant.few))) (c.flush.ensures.any_moment told))

pub returns-clause-recorded : goal.returns-clause-recorded
returns-clause-recorded g c =
    let none = rw c.in_default.is at c.in_ok-line.ensures.line in
    rw c.flush.ensures.entries (all_recorded _ _ _ _ _ _ _ _ c.loop-answers.invariant.so_far none)
