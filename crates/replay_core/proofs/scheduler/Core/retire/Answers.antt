use Rattle.std.proofs.Common.{refl, sym, subst}
use Rattle.replay_core.specs.declared.event.Event.TheVariants.{Retire}
use Rattle.replay_core.specs.Runs.{Allowed}
use Rattle.replay_core.specs.Histories.{History}
use Rattle.replay_core.proofs.Queueing.{kept_quiet}
use Rattle.replay_core.proofs.scheduler.Core.retire.Goals as goal

pub invariant_of-self : goal.invariant_of-self
invariant_of-self c =
    kept_quiet c.self.inside.record c.add.new.self c.self.inside.queues (Retire c.args.slot) c.self.invariant
    (subst (λ (h : History). Allowed h.setup h.events (Retire c.args.slot)) (sym c.self.view_is) (c.requires.slot, c.requires.at_rest)) (λ j. refl) c.add.ensures.added
