use Rattle.std.proofs.Common.{ap, ◌∙◌}
use Rattle.replay_core.specs.declared.event.Event.TheVariants.{Reply}
use Rattle.replay_core.specs.Runs.{slot_at}
use Rattle.replay_board.specs.Seats.{slot_of, own_events}
use Rattle.replay_board.proofs.Steps.{same}
use Rattle.replay_board.proofs.Turning.{own_answered, state_added, same_slot, one_turn}
use Rattle.replay_board.proofs.board.Board.reply.Goals as goal

pub returns-clause-same : goal.returns-clause-same
returns-clause-same g c = same_slot _ _ _ c.turn.ensures.turn

pub returns-clause-turns : goal.returns-clause-turns
returns-clause-turns g c = one_turn _ _ _ c.turn.ensures.turn

pub returns-clause-events : goal.returns-clause-events
returns-clause-events g c = λ i held. own_answered c.slot_events.ensures _ _ c.args.code i c.turn.ensures.turn (same (slot_of c.args.seat.now)) held

pub returns-clause-state : goal.returns-clause-state
returns-clause-state g c =
    let w = slot_of c.args.seat.now in
    let held = c.requires.held in
    let grown = own_answered c.slot_events.ensures _ _ c.args.code held.0 c.turn.ensures.turn (same w) held.1 in
    ap (λ es. slot_at es w) grown ∙ state_added (own_events c.args.seat.now) w (Reply w held.0 c.args.code) (same w)
