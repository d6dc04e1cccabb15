use Rattle.std.proofs.Common.{refl}
use Rattle.replay_core.specs.declared.event.Event.TheVariants.{Miss}
use Rattle.replay_core.proofs.Turning.{misses_nil, misses_push}
use Rattle.replay_core.proofs.Queueing.{miss_decides, decided_not_waiting, kept_ready, kept_pending}
use Rattle.replay_core.proofs.turn.look.Goals as goal

pub returns-then-index-clause-misses : goal.returns-then-index-clause-misses
returns-then-index-clause-misses c = misses_nil c.args.story.now

pub decide-requires-clause-decides : goal.decide-requires-clause-decides
decide-requires-clause-decides c = miss_decides c.args.story.now.setup c.args.story.now.events c.args.item c.in-Lost.place (c.if-not-is_waiting.ensures.0 refl)

pub returns-in-Ok-clause-kept : goal.returns-in-Ok-clause-kept
returns-in-Ok-clause-kept c =
    kept_ready c.args.story.now c.args.queues.now _ c.args.item c.index.result.now c.requires.kept c.requires.inside c.in-Ready.ensures.0 c.index.ensures c.if-index.false refl c.in-Ok.ensures.items c.push.ensures.capacity refl

pub returns-in-Ok-clause-misses : goal.returns-in-Ok-clause-misses
returns-in-Ok-clause-misses c = misses_nil c.args.story.now

pub returns-in-Lost-clause-misses : goal.returns-in-Lost-clause-misses
returns-in-Lost-clause-misses c =
    misses_push c.args.story.now c.args.story.now c.decide.new.story c.args.item c.in-Lost.place (misses_nil c.args.story.now)
    (record { waiting = c.if-not-is_waiting.ensures.0 refl; met = c.in-Lost.ensures.0.0; lost = c.in-Lost.ensures.0.1 }) c.decide.ensures.added

pub returns-in-Lost-clause-looked : goal.returns-in-Lost-clause-looked
returns-in-Lost-clause-looked c = λ waiting off. absurd (decided_not_waiting c.args.story.now c.decide.new.story (Miss c.args.item c.in-Lost.place) c.args.item (miss_decides c.args.story.now.setup c.args.story.now.events c.args.item c.in-Lost.place (c.if-not-is_waiting.ensures.0 refl)) c.decide.ensures.added waiting)

pub returns-in-Pending-clause-kept : goal.returns-in-Pending-clause-kept
returns-in-Pending-clause-kept c =
    kept_pending c.args.story.now c.args.queues.now _ c.args.item c.in-Pending.place c.requires.kept c.requires.inside c.in-Pending.ensures.0 c.in-Pending.ensures.1 c.in-Pending.ensures.2 refl refl

pub returns-in-Pending-clause-misses : goal.returns-in-Pending-clause-misses
returns-in-Pending-clause-misses c = misses_nil c.args.story.now
