use Rattle.std.proofs.Common.{ap, ◌∙◌}
use Rattle.replay_core.specs.Runs.{slot_at}
use Rattle.replay_board.specs.Seats.{slot_of, own_events}
use Rattle.replay_board.proofs.Steps.{same}
use Rattle.replay_board.proofs.Turning.{own_asked, state_asked, finished_after, same_slot, one_turn}
use Rattle.replay_board.proofs.board.Board.next.Goals as goal

pub returns-clause-same : goal.returns-clause-same
returns-clause-same g c = same_slot _ _ _ c.turn.ensures.turn

pub returns-clause-turns : goal.returns-clause-turns
returns-clause-turns g c = one_turn _ _ _ c.turn.ensures.turn

pub returns-clause-events : goal.returns-clause-events
returns-clause-events g c = own_asked c.slot_events.ensures _ _ c.turn.result c.turn.ensures.turn

pub returns-clause-state : goal.returns-clause-state
returns-clause-state g c =
    let w = slot_of c.args.seat.now in
    ap (λ es. slot_at es w) (own_asked c.slot_events.ensures _ _ c.turn.result c.turn.ensures.turn) ∙ state_asked (own_events c.args.seat.now) w c.turn.result c.requires.idle (same w)

pub returns-clause-founded : goal.returns-clause-founded
returns-clause-founded g c = c.turn.ensures.turn.step.founded

pub returns-clause-finished : goal.returns-clause-finished
returns-clause-finished g c = finished_after _ _ _ c.turn.ensures.turn
