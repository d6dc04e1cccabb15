use Rattle.std.proofs.Common.{◌≡◌, ◌∙◌, length, refl, arith, ◌+◌, ◌/◌}
use Rattle.replay_crew.specs.Jobs.{orders_of}
use Rattle.crew_run.specs.Kits.{HasRun}
use Rattle.crew_run.proofs.Places.{at_there, first_at, second_at, along_one, along_both}
use Rattle.crew_run.proofs.threads.+halves.Goals as goal

pub run_each-run_one-requires-clause-ready : goal.run_each-run_one-requires-clause-ready
run_each-run_one-requires-clause-ready g t c = c.requires.ready.each 0 _ (at_there c.args.kits.now 0 c.index-kits-0.result (let p = c.requires.paired in let s = c.requires.some in omega arith))

pub run_each-returns-then-slots-eq1 : goal.run_each-returns-then-slots-eq1
run_each-returns-then-slots-eq1 g t c =
    let one : length c.args.slots.now ≡ 1 = c.if-slots-eq1.true in
    record {
      each = along_one (λ k l s t. HasRun c.args.board.now (orders_of c.args.jobs.now) k l (record { log = g.S.Slot.log s; start_faults = g.S.Slot.start_faults s; running = g.S.Slot.running s }) (record { log = g.S.Slot.log t; start_faults = g.S.Slot.start_faults t; running = g.S.Slot.running t }))
          c.args.kits.now c.run_one.new.kit c.index-kits-0.result c.args.slots.now c.run_one.new.slot c.index-slots-0.result (c.requires.paired ∙ one) one c.run_one.ensures;
    }

pub run_each-run_halves-requires-clause-ready_here : goal.run_each-run_halves-requires-clause-ready_here
run_each-run_halves-requires-clause-ready_here g t c κs within =
    let cut = c.split_at_mut-kits_here in
    record { each = λ p kit at. c.requires.ready.each p kit (rw cut.ensures.value (first_at cut.result.0.now cut.result.1.now p kit at)) }

pub run_each-run_halves-requires-clause-ready_there : goal.run_each-run_halves-requires-clause-ready_there
run_each-run_halves-requires-clause-ready_there g t c κs within =
    let cut = c.split_at_mut-kits_here in
    record { each = λ p kit at. c.requires.ready.each (length cut.result.0.now + p) kit (rw cut.ensures.value (second_at cut.result.0.now cut.result.1.now p kit at)) }

pub run_each-returns : goal.run_each-returns
run_each-returns g t c =
    let kits = c.split_at_mut-kits_here in
    let slots = c.split_at_mut-here in
    let half = length c.args.slots.now / 2 in
    rw (kits.ensures.value, slots.ensures.value)
    (record {
      each = along_both (λ k l s t. HasRun c.args.board.now (orders_of c.args.jobs.now) k l (record { log = g.S.Slot.log s; start_faults = g.S.Slot.start_faults s; running = g.S.Slot.running s }) (record { log = g.S.Slot.log t; start_faults = g.S.Slot.start_faults t; running = g.S.Slot.running t }))
          (length kits.result.0.now) kits.result.0.now c.run_halves.new.kits_here kits.result.1.now c.run_halves.new.kits_there slots.result.0.now c.run_halves.new.here slots.result.1.now c.run_halves.new.there
          refl (let a = c.run_halves.auto.kits_here in omega arith) (let f = slots.ensures.front_len in let k = kits.ensures.front_len in omega arith) (let a = c.run_halves.auto.here in let f = slots.ensures.front_len in let k = kits.ensures.front_len in omega arith)
          c.run_halves.ensures.here.each c.run_halves.ensures.there.each;
    })
