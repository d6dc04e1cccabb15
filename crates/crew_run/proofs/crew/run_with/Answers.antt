use Rattle.std.proofs.Common.{◌≡◌, List, length, sym, ap, ◌∙◌, subst, arith}
use mathlib.Core.Option.{some}
use lib.ListN.{get_elem?}
use Rattle.slot_log.specs.Loads.{none_created}
use Rattle.replay_board.specs.declared.asker.Asker.{Asker}
use Rattle.replay_board.specs.Seats.{IsSlotSeat, setup_seen}
use Rattle.replay_crew.specs.declared.kit.Kit.{Kit}
use Rattle.replay_crew.specs.Jobs.{orders_of}
use Rattle.replay_crew.specs.Kits.{seat_in}
use Rattle.crew_run.proofs.Places.{at_below, at_some, take_whole, to_all}
use Rattle.crew_run.proofs.Played.{is_played}
use Rattle.crew_run.proofs.crew.run_with.Goals as goal

pub run_each-requires-clause-ready : goal.run_each-requires-clause-ready
run_each-requires-clause-ready g c κs within = record {
  each = λ p kit at.
      let n = c.seat_all-kits.ensures.kits.each p kit (subst (λ (l : List (Kit Asker)). get_elem? l p ≡ some kit) c.as_mut_slice.ensures.value at) in
      record { asker = n.asker; heard = n.heard; plan = ap (λ s. s.plan) n.knows ∙ c.requires.plan; marks = n.marks ∙ ap none_created c.requires.plan };
}

pub take_back-requires-clause-seats : goal.take_back-requires-clause-seats
take_back-requires-clause-seats g c =
    let kits = c.run_each.new.kits in
    let many : length kits ≡ length c.seat_all-kits.result.items = c.run_each.auto.kits ∙ ap length c.as_mut_slice.ensures.value in
    let again : c.from_vec.result.items ≡ kits = c.from_vec.ensures.items ∙ take_whole c.seat_all-kits.result.len kits _ (let o = c.seat_all-kits.result.ok in omega arith) in
    to_all (λ (kit : Kit Asker). IsSlotSeat c.args.board (seat_in kit).seat) c.from_vec.result.items (λ p kit at.
    let there = subst (λ (l : List (Kit Asker)). get_elem? l p ≡ some kit) again at in
    let below = at_below kits p kit there in
    let first = at_some c.as_mut_slice.result.now p (let m = c.run_each.auto.kits in omega arith) in
    let before = at_some c.args.slots.now p (let o = c.seat_all-kits.result.ok in let n = c.seat_all-kits.ensures.count in let s = c.requires.slots in omega arith) in
    let after = at_some c.run_each.new.slots p (let a = c.run_each.auto.slots in let o = c.seat_all-kits.result.ok in let n = c.seat_all-kits.ensures.count in let s = c.requires.slots in omega arith) in
    (c.run_each.ensures.each p first.0 kit before.0 after.0 first.1 there before.1 after.1).asker.0)

pub returns-clause-played : goal.returns-clause-played
returns-clause-played g c = λ w old new at_old at_new.
    let kits = c.run_each.new.kits in
    let many : length kits ≡ length c.seat_all-kits.result.items = c.run_each.auto.kits ∙ ap length c.as_mut_slice.ensures.value in
    let again : c.from_vec.result.items ≡ kits = c.from_vec.ensures.items ∙ take_whole c.seat_all-kits.result.len kits _ (let o = c.seat_all-kits.result.ok in omega arith) in
    let below = at_below c.args.slots.now w old at_old in
    let first = at_some c.as_mut_slice.result.now w (let m = c.run_each.auto.kits in let o = c.seat_all-kits.result.ok in let n = c.seat_all-kits.ensures.count in let s = c.requires.slots in omega arith) in
    let second = at_some kits w (let o = c.seat_all-kits.result.ok in let n = c.seat_all-kits.ensures.count in let s = c.requires.slots in omega arith) in
    let back = c.take_back.ensures.back.each w second.0 (subst (λ (l : List (Kit Asker)). get_elem? l w ≡ some second.0) (sym again) second.1) in
    let new_kit = c.seat_all-kits.ensures.kits.each w first.0 (subst (λ (l : List (Kit Asker)). get_elem? l w ≡ some first.0) c.as_mut_slice.ensures.value first.1) in
    let setup : c.close-core.result.setup ≡ setup_seen c.args.root = c.close-core.ensures.setup ∙ (c.take_back.ensures.setup ∙ c.seat_all-kits.ensures.root.knows) in
    is_played c.args.board (orders_of c.args.jobs.now) first.0 second.0 _ _ w c.take_back.new.root c.close-core.result c.slot_events.ensures c.decided_stays.ensures
    (c.run_each.ensures.each w first.0 second.0 old new first.1 second.1 at_old at_new) new_kit.slot (new_kit.knows ∙ sym setup) c.close-core.ensures.events c.close-core.ensures.slots back
