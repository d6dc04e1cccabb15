use Rattle.std.proofs.Common.{◌≡◌, List, [], ap, sym, ◌∙◌, append-nil}
use Rattle.std.proofs.lemmas.List.Elements.{All-nil}
use Rattle.turn_desk.specs.declared.view.View.{View}
use Rattle.turn_desk.specs.Story.{left}
use Rattle.replay_board.specs.declared.note.BoardNote.{BoardNote}
use Rattle.replay_board.specs.declared.origin.BoardOrigin.{BoardOrigin}
use Rattle.replay_board.specs.Notes.{events_in, signed, setup_known}
use Rattle.replay_board.proofs.Signing.{events_signed}
use Rattle.replay_board.proofs.Counting.{counted_at}
use Rattle.replay_board.proofs.board.Board.reader.Goals as goal

pub leave-requires-clause-story : goal.leave-requires-clause-story
leave-requires-clause-story g c =
    let story : List BoardNote = signed c.enter-shared.result.makers.items c.enter-shared.result.core.events in
    let nobody : List BoardNote = [] in (
      story,
      nobody,
      ap (λ (v : View BoardNote BoardOrigin). v.inside) c.enter-shared.ensures.view,
      sym (append-nil story),
      All-nil (λ (n : BoardNote). n.seat ≡ _),
    )

pub returns-clause-counted : goal.returns-clause-counted
returns-clause-counted g c =
    let shared = c.enter-shared.result in
    let story : List BoardNote = signed shared.makers.items shared.core.events in
    let view = c.leave.ensures.view ∙ ap (λ (d : View BoardNote BoardOrigin). left d story) c.enter-shared.ensures.view in
    let setup = ap (λ (v : View BoardNote BoardOrigin). setup_known v.origin) view ∙ ap setup_known c.enter-shared.ensures.origin in
    let events = ap (λ (v : View BoardNote BoardOrigin). events_in v.seen) view ∙ events_signed shared.makers.items shared.core.events shared.paired in
    counted_at _ _ _ _ _ _ setup events c.reader-reader.ensures.seen shared.counted
