use Rattle.std.proofs.Common.{ap, ◌∙◌, sym, inr, subst, replicate, false, refl}
use Rattle.disk_model.specs.Faults.{Rose}
use Rattle.replay_crew.specs.Jobs.{orders_of}
use Rattle.replay_crew.proofs.Telling.{idle_at_first, retired_after_retire, tell_no_start, tell_whole, no_turn_yet, has_turn}
use Rattle.replay_crew.proofs.running.run_slot.Goals as goal

pub returns-in_default-clause-told : goal.returns-in_default-clause-told
returns-in_default-clause-told g c = tell_no_start (orders_of c.args.jobs.now) (g.B.SlotTurns.slot c.args.kit.now.seat) (g.B.SlotTurns.events c.args.kit.now.seat) (g.B.SlotTurns.events c.retire.new.seat) (g.S.Slot.log c.args.slot.now) (g.S.Slot.log c.start.new.self) c.requires.fresh c.retire.ensures.events c.in_default.ensures.failed.1

pub returns-in_default-clause-retired : goal.returns-in_default-clause-retired
returns-in_default-clause-retired g c = λ _. retired_after_retire (g.B.SlotTurns.events c.args.kit.now.seat) (g.B.SlotTurns.events c.retire.new.seat) (g.B.SlotTurns.slot c.args.kit.now.seat) c.retire.ensures.events

pub returns-clause-told : goal.returns-clause-told
returns-clause-told g c = tell_whole (orders_of c.args.jobs.now) (g.B.SlotTurns.slot c.args.kit.now.seat) (g.B.SlotTurns.events c.run_started.new.seat) (g.S.Slot.log c.args.slot.now) (g.S.Slot.log c.start.new.self) (g.S.Slot.log c.run_started.new.slot) c.clear.new.self c.in-Ok.ensures.started.1 (c.clear.ensures ∙ ap (λ n. replicate n false) c.requires.items) c.run_started.ensures.told

pub retire-requires-clause-at_rest : goal.retire-requires-clause-at_rest
retire-requires-clause-at_rest g c = inr (idle_at_first (g.B.SlotTurns.events c.args.kit.now.seat) (g.B.SlotTurns.slot c.args.kit.now.seat) c.requires.fresh)
