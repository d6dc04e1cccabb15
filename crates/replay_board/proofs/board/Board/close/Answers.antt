use Rattle.std.proofs.Common.{ap, sym, ◌∙◌}
use Rattle.replay_core.specs.Histories.{History}
use Rattle.replay_board.specs.Notes.{events_in, signed}
use Rattle.replay_board.proofs.Signing.{events_signed, none_by_root}
use Rattle.replay_board.proofs.Turning.{slot_story}
use Rattle.replay_board.proofs.board.Board.close.Goals as goal

pub returns-clause-events : goal.returns-clause-events
returns-clause-events c = ap (λ (h : History). h.events) c.into_core.ensures ∙ (sym (events_signed c.close.result.makers.items c.close.result.core.events c.close.result.paired) ∙ ap events_in c.close.ensures.story)

pub returns-clause-root_none : goal.returns-clause-root_none
returns-clause-root_none c = sym c.close.ensures.mine ∙ none_by_root (signed c.close.result.makers.items c.close.result.core.events) c.close.result.by_makers

pub returns-clause-slots : goal.returns-clause-slots
returns-clause-slots c = slot_story _ (signed c.close.result.makers.items c.close.result.core.events) _ _ c.close.result.by_makers
    (ap (λ (h : History). h.events) c.into_core.ensures ∙ sym (events_signed c.close.result.makers.items c.close.result.core.events c.close.result.paired)) c.close.ensures.joined c.close.ensures.apart
