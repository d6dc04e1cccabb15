use Rattle.std.proofs.Common.{ap, ◌∙◌}
use Rattle.replay_core.specs.declared.event.Event.TheVariants.{Restart}
use Rattle.replay_core.specs.Runs.{slot_at}
use Rattle.replay_board.specs.Seats.{slot_of, own_events}
use Rattle.replay_board.proofs.Steps.{same}
use Rattle.replay_board.proofs.Turning.{own_added, state_added, same_slot, one_turn}
use Rattle.replay_board.proofs.board.Board.restart.Goals as goal

pub returns-clause-same : goal.returns-clause-same
returns-clause-same g c = same_slot _ _ _ c.turn.ensures.turn

pub returns-clause-turns : goal.returns-clause-turns
returns-clause-turns g c = one_turn _ _ _ c.turn.ensures.turn

pub returns-clause-events : goal.returns-clause-events
returns-clause-events g c = own_added c.slot_events.ensures _ _ (Restart (slot_of c.args.seat.now)) (same (slot_of c.args.seat.now)) c.turn.ensures.turn

pub returns-clause-state : goal.returns-clause-state
returns-clause-state g c =
    let w = slot_of c.args.seat.now in
    let grown = own_added c.slot_events.ensures _ _ (Restart w) (same w) c.turn.ensures.turn in
    ap (λ es. slot_at es w) grown ∙ state_added (own_events c.args.seat.now) w (Restart w) (same w)
