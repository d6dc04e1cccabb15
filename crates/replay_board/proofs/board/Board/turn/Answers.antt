use Rattle.std.proofs.Common.{ℕ, ◌≡◌, ◌+◌, ◌-◌, ◌≤◌, List, ◌++◌, length, None, All, ap, sym, ◌∙◌, subst, arith}
use Rattle.replay_core.specs.declared.event.Event.{Event}
use Rattle.replay_core.specs.Runs.{IsRun, names}
use Rattle.replay_core.specs.Histories.{History}
use Rattle.turn_desk.specs.declared.view.View.{View}
use Rattle.turn_desk.specs.Story.{left}
use Rattle.turn_desk.specs.Seats.{view_of}
use Rattle.replay_board.specs.declared.note.BoardNote.{BoardNote}
use Rattle.replay_board.specs.declared.origin.BoardOrigin.{BoardOrigin}
use Rattle.replay_board.specs.declared.seat.BoardSeat.{BoardSeat}
use Rattle.replay_board.specs.Notes.{signed, setup_known, MayMake}
use Rattle.replay_board.specs.Seats.{notes_seen, number_of, slot_of, setup_seen, events_seen, own_events}
use Rattle.replay_board.specs.Steps.{Grew}
use Rattle.replay_board.specs.Turns.{TakesStep}
use Rattle.replay_board.proofs.Signing.{made_by, made_by_it, makers_kept, story_grown, events_signed}
use Rattle.replay_board.proofs.Turning.{state_at, history_is, grown_history, few_own, takes_step, same_slot}
use Rattle.replay_board.proofs.board.Board.turn.Given.{Over}
use Rattle.replay_board.proofs.board.Board.turn.Goals as goal
use Rattle.replay_board.proofs.board.Board.turn.Goals.{After-seat-1, After-leave-arg-1}

pub make-answer-requires-clause-may : goal.make-answer-requires-clause-may
make-answer-requires-clause-may g c =
    let shared = c.enter-shared.result in
    let number : c.number-number.result ≡ number_of c.args.seat.now = c.number-number.ensures ∙ ap (λ (v : View BoardNote BoardOrigin). v.number) c.enter-shared.ensures.view in
    subst (g.C.Call.may c.args.call)
    (state_at c.slot_events.ensures c.args.seat.now shared.makers.items shared.core.events c.number-number.result shared.paired shared.by_makers c.requires.seat.some_slot c.enter-shared.ensures.mine number)
    c.requires.may

-- the scheduler grew by events of the seat
grew : (g : Over) (c : After-leave-arg-1 g) → Grew c.number-number.result c.enter-shared.result.core c.make-answer.new.core
grew g c =
    let n : ℕ = c.number-number.result in
    let number : n ≡ number_of c.args.seat.now = c.number-number.ensures ∙ ap (λ (v : View BoardNote BoardOrigin). v.number) c.enter-shared.ensures.view in
    let nonzero = c.requires.seat.some_slot in
    let back : (n - 1) + 1 ≡ n = omega arith in
    subst (λ k. Grew k c.enter-shared.result.core c.make-answer.new.core) back c.make-answer.ensures.grew

-- the story after the turn
story : (g : Over) (c : After-leave-arg-1 g) → signed c.settle-shared.result.makers.items c.settle-shared.result.core.events ≡ signed c.enter-shared.result.makers.items c.enter-shared.result.core.events ++ made_by c.number-number.result (grew g c).added
story g c =
    let shared = c.enter-shared.result in
    ap (λ (h : History). signed c.settle-shared.result.makers.items h.events) c.settle-shared.ensures.core
    ∙ (ap (λ (ks : List ℕ). signed ks c.make-answer.new.core.events) c.settle-shared.ensures.makers
    ∙ story_grown c.number-number.result shared.makers.items shared.core c.make-answer.new.core (grew g c) shared.paired)

pub leave-requires-clause-story : goal.leave-requires-clause-story
leave-requires-clause-story g c =
    let added : List Event = (grew g c).added in
    let n : ℕ = c.number-number.result in (
      signed c.enter-shared.result.makers.items c.enter-shared.result.core.events,
      made_by n added,
      ap (λ (v : View BoardNote BoardOrigin). v.inside) c.enter-shared.ensures.view,
      story g c,
      subst (λ k. All (λ (m : BoardNote). m.seat ≡ k) (made_by n added)) c.number-number.ensures (made_by_it n added),
    )

-- the turn took each step that the scheduler took
took : (g : Over) (c : After-seat-1 g) (step : History → History → Type 0) (outside : (view_of c.leave.new.seat).inside ≡ None) → step c.enter-shared.result.core c.make-answer.new.core
    → TakesStep step c.args.seat.now (record { seat = c.leave.new.seat; outside = outside })
took g c step outside st =
    let shared = c.enter-shared.result in
    let seat = c.args.seat.now in
    let at = (goal.at.returns-clause-turn g c).After-leave-arg-1 in
    let grown = grew g at in
    let added : List Event = grown.added in
    let found : List BoardNote = signed shared.makers.items shared.core.events in
    let number : c.number-number.result ≡ number_of seat = c.number-number.ensures ∙ ap (λ (v : View BoardNote BoardOrigin). v.number) c.enter-shared.ensures.view in
    let rest = c.turns_add_own_notes.ensures.rest (number_of seat) (notes_seen seat) found c.enter-shared.ensures.seen (c.enter-shared.ensures.mine ∙ sym c.enter-shared.ensures.own) in
    let setup = ap setup_known c.enter-shared.ensures.origin in
    let events = events_signed shared.makers.items shared.core.events shared.paired in
    let all = story g at ∙ ap (λ k. found ++ made_by k added) number in
    takes_step step seat (record { seat = c.leave.new.seat; outside = outside }) (view_of c.enter-shared.new.seat) found shared.core c.make-answer.new.core added
    c.enter-shared.ensures.view
    (rest.0, sym rest.1)
    rest.2
    c.enter-shared.ensures.mine
    seat.outside
    c.requires.seat.some_slot
    (c.leave.ensures.view ∙ ap (left (view_of c.enter-shared.new.seat)) all)
    c.leave.ensures.own
    (history_is (setup_seen seat) shared.core found setup events)
    (grown_history (setup_seen seat) shared.core c.make-answer.new.core found (number_of seat) added setup events grown.after_is)
    shared.by_makers
    (makers_kept (number_of seat) found added shared.by_makers (subst (λ k. All (MayMake k) added) number grown.own))
    st

pub returns-clause-turn : goal.returns-clause-turn
returns-clause-turn g c =
    let number : c.number-number.result ≡ number_of c.args.seat.now = c.number-number.ensures ∙ ap (λ (v : View BoardNote BoardOrigin). v.number) c.enter-shared.ensures.view in
    took g c (g.C.Call.step c.args.call (slot_of c.args.seat.now) c.make-answer.result) _
    (subst (λ k. g.C.Call.step c.args.call (k - 1) c.make-answer.result c.enter-shared.result.core c.make-answer.new.core) number c.make-answer.ensures.step)

-- the seat is outside again
out : (g : Over) (c : After-seat-1 g) → (view_of c.leave.new.seat).inside ≡ None
out g c = ap (λ (v : View BoardNote BoardOrigin). v.inside) c.leave.ensures.view

pub returns-clause-run : goal.returns-clause-run
returns-clause-run g c =
    let seen : BoardSeat = record { seat = c.leave.new.seat; outside = out g c } in
    let t : TakesStep (λ old new. IsRun new.setup new.events) c.args.seat.now seen = took g c (λ old new. IsRun new.setup new.events) (out g c) c.settle-shared.ensures.run in
    subst (λ s. IsRun s (events_seen seen)) (sym (same_slot (λ old new. IsRun new.setup new.events) c.args.seat.now seen t).1) t.step

pub returns-clause-few : goal.returns-clause-few
returns-clause-few g c =
    let seen : BoardSeat = record { seat = c.leave.new.seat; outside = out g c } in
    let few : length c.make-answer.new.core.events ≤ 3145744 =
    (let same = ap (λ (h : History). length h.events) c.settle-shared.ensures.core in let passed = c.room.ensures.never_passed in let most = c.room.ensures.few in omega arith) in
    let t : TakesStep (λ old new. length new.events ≤ 3145744) c.args.seat.now seen = took g c (λ old new. length new.events ≤ 3145744) (out g c) few in
    few_own (names (slot_of c.args.seat.now)) (events_seen seen) (own_events seen) 3145744 t.own_after t.step
