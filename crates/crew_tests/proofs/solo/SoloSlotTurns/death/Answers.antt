use Rattle.std.proofs.Common.{◌<◌, refl, ap, sym, subst}
use Rattle.replay_core.specs.declared.event.Event.TheVariants.{Reply, Death, Restart, Retire}
use Rattle.replay_core.specs.declared.event.SlotState.TheVariants.{Idle, Holds, Dead}
use Rattle.replay_core.specs.Runs.{Setup}
use Rattle.crew_tests.proofs.Filtering.{state_is, held_is, rest_is, few_named}
use Rattle.crew_tests.proofs.solo.SoloSlotTurns.death.Goals as goal

pub death-requires : goal.death-requires
death-requires g c = record { held = held_is c.slot_events.ensures c.args.seat.now.core.events c.requires.held }

pub returns-clause-seat : goal.returns-clause-seat
returns-clause-seat g c = subst (λ (s : Setup). 0 < s.slots) (sym (ap (λ h. h.setup) (c.death.ensures.added))) c.requires.seat

pub returns-clause-setup : goal.returns-clause-setup
returns-clause-setup g c = ap (λ h. h.setup) (c.death.ensures.added)

pub returns-clause-events : goal.returns-clause-events
returns-clause-events g c = c.slot_events.ensures.event c.args.seat.now.core c.death.new.self 0 (Death 0) refl c.death.ensures.added

pub returns-clause-few : goal.returns-clause-few
returns-clause-few g c = few_named c.death.new.self.events c.room.result c.room.ensures.never_passed c.room.ensures.few
