use Rattle.std.proofs.Common.{arith}
use Rattle.replay_core.proofs.Queueing.{kept_decide}
use Rattle.replay_core.proofs.turn.decide.Goals as goal

pub pass_on-requires-clause-inside : goal.pass_on-requires-clause-inside
pass_on-requires-clause-inside c = omega (arith, c.requires.inside, c.requires.kept.kept.fit.users_are.same_length)

pub pass_on-requires-clause-known : goal.pass_on-requires-clause-known
pass_on-requires-clause-known c = omega (arith, c.requires.inside, c.requires.kept.kept.fit.passed_len)

pub pass_on-requires-clause-once : goal.pass_on-requires-clause-once
pass_on-requires-clause-once c = c.requires.kept.unpassed c.args.item c.requires.decides.undecided

pub pass_on-requires-clause-room : goal.pass_on-requires-clause-room
pass_on-requires-clause-room c = c.requires.kept.kept.room

pub returns-clause-kept : goal.returns-clause-kept
returns-clause-kept c =
    kept_decide c.args.story.now c.add.new.self c.args.queues.now c.pass_on.new.list c.args.event c.args.item c.requires.kept c.requires.allowed c.requires.decides c.add.ensures.added
    c.pass_on.ensures.passed c.pass_on.ensures.fresh c.pass_on.ensures.room c.pass_on.ensures.work c.pass_on.ensures.rest
