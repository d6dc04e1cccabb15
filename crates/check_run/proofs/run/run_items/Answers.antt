use Rattle.std.proofs.Common.{ap, arith}
use Rattle.replay_core.specs.Runs.{Setup}
use Rattle.check_run.proofs.Driven.{going_first, all_checked, never_idle, started_inside, going_on, smaller}
use Rattle.check_run.proofs.run.run_items.Goals as goal

pub items-init : goal.items-init
items-init g c = record { going = going_first g.R.Driver.creates (g.R.Driver.meaning c.args.driver.now) c.args.entries.now c.args.graph.now c.args.core.now c.requires.first }

pub next-requires-clause-inside : goal.next-requires-clause-inside
next-requires-clause-inside g c = let slots = ap (λ (s : Setup). s.slots) c.items.invariant.going.setup in omega (arith, slots)

pub next-requires-clause-idle : goal.next-requires-clause-idle
next-requires-clause-idle g c = c.items.invariant.going.idle

pub returns-in-Finished : goal.returns-in-Finished
returns-in-Finished g c =
    all_checked g.R.Driver.creates (g.R.Driver.meaning c.args.driver.now) c.args.entries.now c.args.graph.now c.items.core c.next.new.self (g.R.Driver.meaning c.items.driver) c.items.invariant.going c.in-Finished.ensures.turn

pub unreachable-requires : goal.unreachable-requires
unreachable-requires g c =
    never_idle g.R.Driver.creates (g.R.Driver.meaning c.args.driver.now) c.args.entries.now c.args.graph.now c.items.core c.next.new.self (g.R.Driver.meaning c.items.driver) c.items.invariant.going c.in-Idle.ensures.turn

pub answer-requires-clause-plan : goal.answer-requires-clause-plan
answer-requires-clause-plan g c = c.requires.plan

pub answer-requires-clause-inside : goal.answer-requires-clause-inside
answer-requires-clause-inside g c =
    started_inside g.R.Driver.creates (g.R.Driver.meaning c.args.driver.now) c.args.entries.now c.args.graph.now c.items.core c.next.new.self (g.R.Driver.meaning c.items.driver) c.in-Work.item c.items.invariant.going c.in-Work.ensures.turn

pub reply-requires : goal.reply-requires
reply-requires g c = record { held = (c.in-Work.item, c.in-Work.ensures.slot) }

pub items-preserved : goal.items-preserved
items-preserved g c = record {
  going =
      going_on g.R.Driver.creates (g.R.Driver.meaning c.args.driver.now) c.args.entries.now c.args.graph.now c.items.core c.next.new.self c.reply.new.self (g.R.Driver.meaning c.items.driver) (g.R.Driver.meaning c.answer.new.driver) c.in-Work.item c.in_ok-code-in-Work.code c.items.invariant.going c.in-Work.ensures.turn c.in-Work.ensures.slot
      c.in_ok-code-in-Work.ensures (c.reply.ensures.added c.in-Work.item c.in-Work.ensures.slot);
}

pub items-smaller : goal.items-smaller
items-smaller g c =
    smaller c.items.core c.next.new.self c.reply.new.self c.in-Work.item c.in_ok-code-in-Work.code c.in-Work.ensures.turn (c.reply.ensures.added c.in-Work.item c.in-Work.ensures.slot)
    c.reply.ensures.never_passed
