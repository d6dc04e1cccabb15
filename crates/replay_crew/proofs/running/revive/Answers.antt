use Rattle.std.proofs.Common.{ap, ◌∙◌, replicate, false}
use Rattle.replay_crew.specs.Jobs.{orders_of}
use Rattle.replay_crew.proofs.Telling.{revived, not_revived, idle_after_restart, retired_after_retire, turn_taken, has_turn}
use Rattle.replay_crew.proofs.running.revive.Goals as goal

pub returns-in_default-clause-told : goal.returns-in_default-clause-told
returns-in_default-clause-told g c = not_revived (orders_of c.args.jobs.now) (g.B.SlotTurns.slot c.args.seat.now) (g.B.SlotTurns.events c.args.seat.now) (g.B.SlotTurns.events c.retire.new.seat) (g.S.Slot.log c.args.slot.now) (g.S.Slot.log c.start.new.self) c.retire.ensures.events c.in_default.ensures.failed.1

pub returns-clause-told : goal.returns-clause-told
returns-clause-told g c = revived (orders_of c.args.jobs.now) (g.B.SlotTurns.slot c.args.seat.now) (g.B.SlotTurns.events c.args.seat.now) (g.B.SlotTurns.events c.restart.new.seat) (g.S.Slot.log c.args.slot.now) (g.S.Slot.log c.start.new.self) c.clear.new.self c.restart.ensures.events c.in-Ok.ensures.started.1 (c.clear.ensures ∙ ap (λ n. replicate n false) c.requires.items)

pub returns-clause-idle : goal.returns-clause-idle
returns-clause-idle g c = λ _. idle_after_restart (g.B.SlotTurns.events c.args.seat.now) (g.B.SlotTurns.events c.restart.new.seat) (g.B.SlotTurns.slot c.args.seat.now) c.restart.ensures.events

pub returns-in_default-clause-retired : goal.returns-in_default-clause-retired
returns-in_default-clause-retired g c = λ _. retired_after_retire (g.B.SlotTurns.events c.args.seat.now) (g.B.SlotTurns.events c.retire.new.seat) (g.B.SlotTurns.slot c.args.seat.now) c.retire.ensures.events
