use Rattle.std.proofs.Common.{◌≡◌, ◌<◌, length, true, set, ap, ◌∙◌, subst, sym}
use Rattle.disk_model.specs.Faults.{Rose}
use Rattle.slot_log.specs.Works.{work_of}
use Rattle.replay_crew.specs.Jobs.{orders_of}
use Rattle.replay_core.specs.Plans.{items_of}
use Rattle.slot_log.specs.Loads.{IsClosedDown, HasDepsCreated}
use Rattle.replay_crew.specs.Asking.{GrewBy}
use Rattle.replay_crew.specs.declared.asking.Outcome.TheVariants.{Answered}
use Rattle.replay_crew.proofs.Walking.{founded_inside}
use Rattle.replay_crew.proofs.Asked.{just_asked, answered_zero, answered_other, gone_at_do, gone_at_reply, wrong_at_reply}
use Rattle.replay_crew.proofs.asking.ask.Goals as goal

pub send-requires-clause-inside : goal.send-requires-clause-inside
send-requires-clause-inside g c = founded_inside (orders_of c.args.jobs.now).plan c.args.item c.requires.founded

pub entry-requires-clause-inside : goal.entry-requires-clause-inside
entry-requires-clause-inside g c = founded_inside (orders_of c.args.jobs.now).plan c.args.item c.requires.founded

pub returns-in_default-send-clause-log : goal.returns-in_default-send-clause-log
returns-in_default-send-clause-log g c =
    gone_at_do (orders_of c.args.jobs.now) c.args.loader.now c.args.item (g.S.Slot.log c.args.slot.now) (g.S.Slot.log c.load_all.new.slot) (g.S.Slot.log c.send.new.slot) c.load_all.new.loader c.send.new.self c.in-Ok.ensures.loaded.1 c.in_default-send.ensures.gone.1

pub returns-then-code-eq0-clause-log : goal.returns-then-code-eq0-clause-log
returns-then-code-eq0-clause-log g c =
    answered_zero (orders_of c.args.jobs.now) c.args.loader.now c.args.item c.in-Answered.code c.entry.result.now.head.key (g.S.Slot.log c.args.slot.now) (g.S.Slot.log c.load_all.new.slot) (g.S.Slot.log c.send.new.slot) (g.S.Slot.log c.read_reply.new.slot) c.load_all.new.loader c.mark.new.self
    c.in-Ok.ensures.loaded.1 c.in-Ok-send.ensures.sent.1 (ap (λ w. w.key) c.entry.ensures.work) c.in-Answered.ensures.answered c.if-code-eq0.true (c.mark.ensures.marked ∙ ap (λ ms. set ms c.args.item true) c.send.ensures.marks)

pub returns-else-code-eq0-clause-log : goal.returns-else-code-eq0-clause-log
returns-else-code-eq0-clause-log g c =
    subst (GrewBy (orders_of c.args.jobs.now) c.args.loader.now c.args.item (Answered c.in-Answered.code) (g.S.Slot.log c.args.slot.now) (g.S.Slot.log c.read_reply.new.slot)) (sym c.send.ensures.marks)
    (answered_other (orders_of c.args.jobs.now) c.args.loader.now c.args.item c.in-Answered.code c.entry.result.now.head.key (g.S.Slot.log c.args.slot.now) (g.S.Slot.log c.load_all.new.slot) (g.S.Slot.log c.send.new.slot) (g.S.Slot.log c.read_reply.new.slot) c.load_all.new.loader
    c.in-Ok.ensures.loaded.1 c.in-Ok-send.ensures.sent.1 (ap (λ w. w.key) c.entry.ensures.work) c.in-Answered.ensures.answered c.if-code-eq0.false)

pub returns-in-Gone-clause-log : goal.returns-in-Gone-clause-log
returns-in-Gone-clause-log g c =
    gone_at_reply (orders_of c.args.jobs.now) c.args.loader.now c.args.item c.entry.result.now.head.key (g.S.Slot.log c.args.slot.now) (g.S.Slot.log c.load_all.new.slot) (g.S.Slot.log c.send.new.slot) (g.S.Slot.log c.read_reply.new.slot) c.load_all.new.loader c.send.new.self
    c.in-Ok.ensures.loaded.1 c.in-Ok-send.ensures.sent.1 c.in-Gone.ensures.answered

pub returns-in-Wrong-clause-log : goal.returns-in-Wrong-clause-log
returns-in-Wrong-clause-log g c =
    wrong_at_reply (orders_of c.args.jobs.now) c.args.loader.now c.args.item c.entry.result.now.head.key (g.S.Slot.log c.args.slot.now) (g.S.Slot.log c.load_all.new.slot) (g.S.Slot.log c.send.new.slot) (g.S.Slot.log c.read_reply.new.slot) c.load_all.new.loader c.send.new.self
    c.in-Ok.ensures.loaded.1 c.in-Ok-send.ensures.sent.1 (ap (λ w. w.key) c.entry.ensures.work) c.in-Wrong.ensures.answered

pub mark-requires-clause-inside : goal.mark-requires-clause-inside
mark-requires-clause-inside g c = subst (λ n. c.args.item < n) (sym (ap length c.send.ensures.marks ∙ c.load_all.ensures.items)) (founded_inside (orders_of c.args.jobs.now).plan c.args.item c.requires.founded)
