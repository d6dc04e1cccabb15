use Rattle.std.proofs.Common.{◌<◌, refl, ap, sym, subst}
use Rattle.replay_core.specs.declared.event.Event.TheVariants.{Reply, Death, Restart, Retire}
use Rattle.replay_core.specs.declared.event.SlotState.TheVariants.{Idle, Holds, Dead}
use Rattle.replay_core.specs.Runs.{Setup}
use Rattle.crew_tests.proofs.Filtering.{state_is, held_is, rest_is, few_named}
use Rattle.crew_tests.proofs.solo.SoloSlotTurns.next.Goals as goal

pub next-next-requires-clause-idle : goal.next-next-requires-clause-idle
next-next-requires-clause-idle g c = state_is c.slot_events.ensures c.args.seat.now.core.events Idle c.requires.idle

pub returns-clause-seat : goal.returns-clause-seat
returns-clause-seat g c = subst (λ (s : Setup). 0 < s.slots) (sym (c.slot_events.ensures.turn_setup c.args.seat.now.core c.next-next.new.self 0 c.next-next.result c.next-next.ensures.turn)) c.requires.seat

pub returns-clause-setup : goal.returns-clause-setup
returns-clause-setup g c = c.slot_events.ensures.turn_setup c.args.seat.now.core c.next-next.new.self 0 c.next-next.result c.next-next.ensures.turn

pub returns-clause-events : goal.returns-clause-events
returns-clause-events g c = c.slot_events.ensures.turn c.args.seat.now.core c.next-next.new.self 0 c.next-next.result c.next-next.ensures.turn

pub returns-clause-few : goal.returns-clause-few
returns-clause-few g c = few_named c.next-next.new.self.events c.room.result c.room.ensures.never_passed c.room.ensures.few
