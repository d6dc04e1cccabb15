use Rattle.std.proofs.Common.{◌≡◌, arith, refl}
use Rattle.replay_core.specs.Plans.{deps_of}
use Rattle.replay_core.proofs.Marking.{deps_read, look_meets, look_stops, search_passed}
use Rattle.replay_core.proofs.founded.look_at.Goals as goal
use Rattle.replay_core.proofs.founded.look_at.Goals.{After-first_unmarked-place}

deps_are : (c : After-first_unmarked-place) → c.as_slice-deps.result.now ≡ deps_of c.args.plan.now c.args.item
deps_are c = deps_read c.args.plan.now c.args.item _ c.index-rows-item.result _ c.requires.inside c.as_slice-rows.ensures c.index-rows-item.is c.as_slice-deps.ensures

pub returns-then-place-deps-clause-fits : goal.returns-then-place-deps-clause-fits
returns-then-place-deps-clause-fits c =
    let met = look_meets c.args.plan.now c.args.list.now.passed.items _ c.args.item c.first_unmarked-place.result _ (deps_are (goal.at.returns-then-place-deps-clause-fits c).After-first_unmarked-place) c.as_slice.ensures.value
    (omega (arith, c.if-place-deps.true)) c.first_unmarked-place.ensures.marked in
    search_passed c.args.plan.now c.args.list.now c.pass_on.new.list c.args.item c.requires.plan c.requires.fits c.requires.inside met
    c.pass_on.ensures.passed c.pass_on.ensures.fresh c.pass_on.ensures.room c.pass_on.ensures.work c.pass_on.ensures.rest

pub returns-clause-fits : goal.returns-clause-fits
returns-clause-fits c =
    let place = c.first_unmarked-place in
    look_stops c.args.plan.now c.args.list.now _ _ c.args.item place.result _ (deps_are (goal.at.returns-clause-fits c).After-first_unmarked-place) c.as_slice.ensures.value
    c.requires.fits c.requires.inside place.ensures.inside place.ensures.marked (place.ensures.stops (omega (arith, place.ensures.inside, c.if-place-deps.false))) refl refl
