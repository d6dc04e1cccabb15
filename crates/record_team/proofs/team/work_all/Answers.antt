use Rattle.record_team.proofs.team.work_all.Goals as goal

pub for_each_mut-requires-clause-accepts : goal.for_each_mut-requires-clause-accepts
for_each_mut-requires-clause-accepts g c κs within = λ i p below at.
    let h = rw (← at) at (c.requires.new.1 i p.now below) in
    (c.requires.some, h.0, (c.requires.new.0, h.1), h.2, h.3, h.4, h.5)

pub returns : goal.returns
returns g c = record {
  same = λ i d below. let call = (c.for_each_mut.ensures i d below).1 in let h = rw (call.argument_is, call.left) at call.call in h.0;
  worked = λ i d below. let call = (c.for_each_mut.ensures i d below).1 in let h = rw (call.argument_is, call.left) at call.call in h.1;
}
