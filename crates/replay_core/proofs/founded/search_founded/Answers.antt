use Rattle.std.proofs.Common.{◌≡◌, ◌<◌, length, arith}
use Rattle.std.specs.Vec.{vec_len}
use Rattle.replay_core.proofs.Marking.{search_first, search_done, search_next}
use Rattle.replay_core.proofs.founded.search_founded.Goals as goal

pub loop-list-init : goal.loop-list-init
loop-list-init c = search_first c.args.plan.now c.in_ok-list.list c.in_ok-list.ensures

pub loop-list-preserved : goal.loop-list-preserved
loop-list-preserved c =
    let before = c.loop-list.list in
    let len : vec_len before.fresh ≡ length before.fresh.items = before.fresh.ok.0 in
    let inside : before.head < length before.fresh.items = omega (arith, len, c.loop-list-test.true, c.len.ensures) in
    let looked = c.look_at.ensures in
    search_next c.args.plan.now before c.look_at.new.list c.index-item.result.now looked.fits looked.looked inside c.index-item.ensures looked.fresh looked.head

pub returns-clause-founded : goal.returns-clause-founded
returns-clause-founded c =
    let list = c.loop-list.list in
    let len : vec_len list.fresh ≡ length list.fresh.items = list.fresh.ok.0 in
    search_done c.args.plan.now list c.loop-list.invariant (omega (arith, len, c.loop-list-test.false, c.len.ensures, c.loop-list.invariant.kept.fit.head_inside))

pub returns-clause-users : goal.returns-clause-users
returns-clause-users c = c.loop-list.invariant.kept.fit.users_are
