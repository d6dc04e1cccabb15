use Rattle.std.proofs.Common.{◌∙◌, arith}
use Rattle.worker_node.proofs.Runs.{cutting_took, working_worked}
use Rattle.worker_node.proofs.Endings.{fewer, next_message, next_partial, next_ends, partial_cut, ends_cut, partial_working, ends_served, out_of_memory, unworked_end}
use Rattle.worker_node.proofs.working.work_off.Goals as goal

pub returns-in-Err-clause-working : goal.returns-in-Err-clause-working
returns-in-Err-clause-working g c = λ told before start taken working.
    out_of_memory g.R.Driver.creates before start taken c.messages.feed (g.O.Sink.written c.messages.sink) _ (c.messages.invariant.working told before start taken working)

pub returns-in-Partial-clause-reached : goal.returns-in-Partial-clause-reached
returns-in-Partial-clause-reached g c = λ taken cutting.
    partial_cut taken c.messages.feed c.next_work.new.feed (next_partial c.messages.feed c.next_work.new.feed c.in-Ok.next c.in-Partial.is c.in-Ok.ensures.next) (c.messages.invariant.cutting taken cutting)

pub returns-in-Partial-clause-working : goal.returns-in-Partial-clause-working
returns-in-Partial-clause-working g c = λ told before start taken working.
    let same = next_partial c.messages.feed c.next_work.new.feed c.in-Ok.next c.in-Partial.is c.in-Ok.ensures.next in
    partial_working g.R.Driver.creates before start taken c.messages.feed c.next_work.new.feed (g.O.Sink.written c.messages.sink) _ same.1 (c.messages.invariant.working told before start taken working)

pub returns-in-Ends-clause-reached : goal.returns-in-Ends-clause-reached
returns-in-Ends-clause-reached g c = λ taken cutting.
    ends_cut taken c.messages.feed c.in-Ends.end (c.messages.invariant.cutting taken cutting) (next_ends c.messages.feed c.next_work.new.feed c.in-Ok.next c.in-Ends.end c.in-Ends.is c.in-Ok.ensures.next)

pub returns-in-Ends-clause-working : goal.returns-in-Ends-clause-working
returns-in-Ends-clause-working g c = λ told before start taken working.
    ends_served g.R.Driver.creates before start taken c.messages.feed (g.O.Sink.written c.messages.sink) _ c.in-Ends.end (c.messages.invariant.working told before start taken working)
    (next_ends c.messages.feed c.next_work.new.feed c.in-Ok.next c.in-Ends.end c.in-Ends.is c.in-Ok.ensures.next)

pub messages-smaller : goal.messages-smaller
messages-smaller g c =
    let next = next_message c.messages.feed c.next_work.new.feed c.in-Ok.next c.in-Message.message c.in-Message.is c.in-Ok.ensures.next in
    fewer c.messages.feed c.next_work.new.feed c.in-Message.message next.0

pub messages-preserved : goal.messages-preserved
messages-preserved g c =
    let next = next_message c.messages.feed c.next_work.new.feed c.in-Ok.next c.in-Message.message c.in-Message.is c.in-Ok.ensures.next in
    record {
      side = c.in-Ok.ensures.side;
      given = c.in-Ok.ensures.given ∙ c.messages.invariant.given;
      cutting = λ taken cutting. cutting_took taken c.messages.feed c.next_work.new.feed c.in-Message.message next.0 next.1 (c.messages.invariant.cutting taken cutting);
      working = λ told before start taken working.
          working_worked g.R.Driver.creates before start taken c.messages.feed c.next_work.new.feed c.in-Message.message _ _ _ _ next.0 next.1 (c.in-Ok-worked.ensures.ok told) (c.messages.invariant.working told before start taken working);
      later = (let so_far = c.messages.invariant.later in let more = c.in-Ok-worked.ensures.later in omega arith);
    }

pub returns-in-Err-worked-clause-working : goal.returns-in-Err-worked-clause-working
returns-in-Err-worked-clause-working g c = λ told before start taken working.
    let next = next_message c.messages.feed c.next_work.new.feed c.in-Ok.next c.in-Message.message c.in-Message.is c.in-Ok.ensures.next in
    unworked_end g.R.Driver.creates before start taken c.messages.feed c.next_work.new.feed c.in-Message.message (g.O.Sink.written c.messages.sink) _ _ _ c.in-Err-worked.stopped next.0 next.1 (c.in-Err-worked.ensures.err told)
    (c.messages.invariant.working told before start taken working)
