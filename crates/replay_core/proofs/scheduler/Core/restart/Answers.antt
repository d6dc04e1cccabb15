use Rattle.std.proofs.Common.{refl, ap, ◌∙◌, ◌≡◌}
use Rattle.replay_core.specs.declared.event.Event.TheVariants.{Restart}
use Rattle.replay_core.specs.declared.event.SlotState.TheVariants.{Dead}
use Rattle.replay_core.specs.Runs.{slot_at, Allowed}
use Rattle.replay_core.specs.Histories.{History}
use Rattle.replay_core.proofs.Queueing.{kept_quiet}
use Rattle.replay_core.proofs.Settled.{dead_inside}
use Rattle.replay_core.proofs.scheduler.Core.restart.Goals as goal
use Rattle.replay_core.proofs.scheduler.Core.restart.Goals.{After-self}

allowed : (c : After-self) → Allowed c.self.inside.record.setup c.self.inside.record.events (Restart c.args.slot)
allowed c =
    let dead : slot_at c.self.inside.record.events c.args.slot ≡ Dead = ap (λ (h : History). slot_at h.events c.args.slot) c.self.view_is ∙ c.requires in
    (dead_inside c.self.inside.record.setup c.self.inside.record.events c.args.slot c.self.invariant.run dead, dead)

pub add-requires : goal.add-requires
add-requires c = allowed (goal.at.add-requires c).After-self

pub invariant_of-self : goal.invariant_of-self
invariant_of-self c = kept_quiet c.self.inside.record c.add.new.self c.self.inside.queues (Restart c.args.slot) c.self.invariant (allowed (goal.at.invariant_of-self c).After-self) (λ j. refl) c.add.ensures.added
