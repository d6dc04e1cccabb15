use Rattle.std.proofs.Common.{◌<◌, refl, ap, sym, subst}
use Rattle.replay_core.specs.declared.event.Event.TheVariants.{Reply, Death, Restart, Retire}
use Rattle.replay_core.specs.declared.event.SlotState.TheVariants.{Idle, Holds, Dead}
use Rattle.replay_core.specs.Runs.{Setup}
use Rattle.crew_tests.proofs.Filtering.{state_is, held_is, rest_is, few_named}
use Rattle.crew_tests.proofs.solo.SoloSlotTurns.reply.Goals as goal

pub reply-requires : goal.reply-requires
reply-requires g c = record { held = held_is c.slot_events.ensures c.args.seat.now.core.events c.requires.held }

pub returns-clause-seat : goal.returns-clause-seat
returns-clause-seat g c = subst (λ (s : Setup). 0 < s.slots) (sym (ap (λ h. h.setup) (c.reply.ensures.added c.requires.held.0 (state_is c.slot_events.ensures c.args.seat.now.core.events (Holds c.requires.held.0) c.requires.held.1)))) c.requires.seat

pub returns-clause-setup : goal.returns-clause-setup
returns-clause-setup g c = ap (λ h. h.setup) (c.reply.ensures.added c.requires.held.0 (state_is c.slot_events.ensures c.args.seat.now.core.events (Holds c.requires.held.0) c.requires.held.1))

pub returns-clause-events : goal.returns-clause-events
returns-clause-events g c = λ i held. c.slot_events.ensures.event c.args.seat.now.core c.reply.new.self 0 (Reply 0 i c.args.code) refl (c.reply.ensures.added i (state_is c.slot_events.ensures c.args.seat.now.core.events (Holds i) held))

pub returns-clause-few : goal.returns-clause-few
returns-clause-few g c = few_named c.reply.new.self.events c.room.result c.room.ensures.never_passed c.room.ensures.few
