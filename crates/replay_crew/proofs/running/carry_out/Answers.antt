use Rattle.replay_core.specs.declared.event.Event.TheVariants.{Reply}
use Rattle.replay_crew.specs.Jobs.{orders_of}
use Rattle.replay_crew.specs.Steps.{goes_on}
use Rattle.replay_crew.proofs.Telling.{carried_reply, carried_gone, carried_wrong, idle_after_reply, dead_after_death, turn_taken}
use Rattle.replay_crew.proofs.running.carry_out.Goals as goal

pub revive-requires-clause-dead : goal.revive-requires-clause-dead
revive-requires-clause-dead g c = dead_after_death (g.B.SlotTurns.events c.args.seat.now) (g.B.SlotTurns.events c.death.new.seat) (g.B.SlotTurns.slot c.death.new.seat) (g.B.SlotTurns.slot c.args.seat.now) c.death.ensures.slot c.death.ensures.events

pub revive-requires-in-Wrong-clause-dead : goal.revive-requires-in-Wrong-clause-dead
revive-requires-in-Wrong-clause-dead g c = dead_after_death (g.B.SlotTurns.events c.args.seat.now) (g.B.SlotTurns.events c.death-in-Wrong.new.seat) (g.B.SlotTurns.slot c.death-in-Wrong.new.seat) (g.B.SlotTurns.slot c.args.seat.now) c.death-in-Wrong.ensures.slot c.death-in-Wrong.ensures.events

pub returns-in-Answered-clause-told : goal.returns-in-Answered-clause-told
returns-in-Answered-clause-told g c = carried_reply (orders_of c.args.jobs.now) (g.B.SlotTurns.slot c.args.seat.now) c.args.item c.in-Answered.code c.args.loader.now c.ask.new.loader (g.B.SlotTurns.events c.args.seat.now) (g.B.SlotTurns.events c.reply.new.seat) (g.S.Slot.log c.args.slot.now) (g.S.Slot.log c.ask.new.slot) c.in-Answered.ensures.log (c.reply.ensures.events c.args.item c.requires.held)

pub returns-in-Answered-clause-idle : goal.returns-in-Answered-clause-idle
returns-in-Answered-clause-idle g c = λ _. idle_after_reply (g.B.SlotTurns.events c.args.seat.now) (g.B.SlotTurns.events c.reply.new.seat) (g.B.SlotTurns.slot c.args.seat.now) c.args.item c.in-Answered.code (c.reply.ensures.events c.args.item c.requires.held)

pub returns-in-Gone-clause-told : goal.returns-in-Gone-clause-told
returns-in-Gone-clause-told g c =
    carried_gone (orders_of c.args.jobs.now) (g.B.SlotTurns.slot c.death.new.seat) (g.B.SlotTurns.slot c.args.seat.now) c.args.item c.args.loader.now c.ask.new.loader (g.B.SlotTurns.events c.args.seat.now) (g.B.SlotTurns.events c.death.new.seat) (g.B.SlotTurns.events c.revive.new.seat)
    (g.S.Slot.log c.args.slot.now) (g.S.Slot.log c.ask.new.slot) (g.S.Slot.log c.revive.new.slot) (goes_on c.revive.result c.revive.new.loader) c.in-Gone.ensures.log c.death.ensures.slot c.death.ensures.events c.revive.ensures.told

pub returns-in-Wrong-clause-told : goal.returns-in-Wrong-clause-told
returns-in-Wrong-clause-told g c =
    carried_wrong (orders_of c.args.jobs.now) (g.B.SlotTurns.slot c.death-in-Wrong.new.seat) (g.B.SlotTurns.slot c.args.seat.now) c.args.item c.args.loader.now c.ask.new.loader (g.B.SlotTurns.events c.args.seat.now) (g.B.SlotTurns.events c.death-in-Wrong.new.seat) (g.B.SlotTurns.events c.revive-in-Wrong.new.seat)
    (g.S.Slot.log c.args.slot.now) (g.S.Slot.log c.ask.new.slot) (g.S.Slot.log c.revive-in-Wrong.new.slot) (goes_on c.revive-in-Wrong.result c.revive-in-Wrong.new.loader) c.in-Wrong.ensures.log c.death-in-Wrong.ensures.slot c.death-in-Wrong.ensures.events c.revive-in-Wrong.ensures.told

pub returns-in-Answered-clause-turns : goal.returns-in-Answered-clause-turns
returns-in-Answered-clause-turns g c = turn_taken (g.B.SlotTurns.turns c.args.seat.now) (g.B.SlotTurns.turns c.reply.new.seat) (g.B.SlotTurns.heard c.args.seat.now) (g.B.SlotTurns.heard c.reply.new.seat) (g.B.SlotTurns.events c.args.seat.now) (g.B.SlotTurns.events c.reply.new.seat) (Reply (g.B.SlotTurns.slot c.args.seat.now) c.args.item c.in-Answered.code) c.requires.turns c.reply.ensures.turns c.reply.ensures.heard (c.reply.ensures.events c.args.item c.requires.held) c.reply.ensures.few
