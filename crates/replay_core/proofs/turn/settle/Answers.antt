use Rattle.std.proofs.Common.{◌≡◌, ◌<◌, length, arith}
use Rattle.std.specs.Vec.{vec_len}
use Rattle.replay_core.proofs.Turning.{misses_nil, misses_join}
use Rattle.replay_core.proofs.Queueing.{kept_looked}
use Rattle.replay_core.proofs.turn.settle.Goals as goal

pub loop-queues-init : goal.loop-queues-init
loop-queues-init c = record { kept = c.requires.kept; misses = misses_nil c.args.story.now }

pub loop-queues-preserved : goal.loop-queues-preserved
loop-queues-preserved c =
    let len : vec_len c.loop-queues.queues.list.fresh ≡ length c.loop-queues.queues.list.fresh.items = c.loop-queues.queues.list.fresh.ok.0 in
    let inside : c.loop-queues.queues.list.head < length c.loop-queues.queues.list.fresh.items = omega (arith, len, c.loop-queues-test.true, c.len.ensures) in
    record {
      kept = kept_looked c.loop-queues.story c.look.new.story c.loop-queues.queues c.look.new.queues c.index-item.result.now c.look.ensures.kept c.look.ensures.looked inside c.index-item.ensures c.look.ensures.fresh c.look.ensures.head;
      misses = misses_join c.args.story.now c.loop-queues.story c.look.new.story c.loop-queues.invariant.misses c.look.ensures.misses;
    }
