use Rattle.std.proofs.Common.{◌≡◌, MatchOption, ℕ, ap, ◌∙◌, subst}
use Rattle.turn_desk.specs.Seats.{view_of}
use Rattle.record_dedup.specs.Steps.{flush_told}
use Rattle.record_threads.specs.Ties.{IsFlushNote}
use Rattle.record_threads.specs.Shelves.{IsNoted}
use Rattle.record_threads.proofs.Turns.{goes_on, called}
use Rattle.record_threads.proofs.recorder.flush_at.Goals as goal

pub leave-requires-clause-story : goal.leave-requires-clause-story
leave-requires-clause-story g c =
    let told = subst (λ (k : ℕ). MatchOption (flush_told c.flush-answer.result) (c.flush-answer.new.self ≡ c.enter-shelf.result) (λ reply. IsNoted c.enter-shelf.result k (IsFlushNote reply) c.flush-answer.new.self)) c.number.ensures c.flush-answer.ensures.told in
    let more = goes_on (flush_told c.flush-answer.result) c.enter-shelf.result c.flush-answer.new.self (view_of c.enter-shelf.new.seat).number IsFlushNote told in
    (c.enter-shelf.result.story, more.0, ap (λ v. v.inside) c.enter-shelf.ensures.view, more.1, more.2)

pub returns-clause-told : goal.returns-clause-told
returns-clause-told g c =
    let in_turn = c.enter-shelf.ensures in
    let number = c.number.ensures ∙ ap (λ v. v.number) in_turn.view in
    let told = subst (λ (k : ℕ). MatchOption (flush_told c.flush-answer.result) (c.flush-answer.new.self ≡ c.enter-shelf.result) (λ reply. IsNoted c.enter-shelf.result k (IsFlushNote reply) c.flush-answer.new.self)) number c.flush-answer.ensures.told in
    called c.turns_add_own_notes.ensures.rest c.turns_add_own_notes.ensures.turn (flush_told c.flush-answer.result) (view_of c.args.seat.now) (view_of c.enter-shelf.new.seat) (view_of c.leave.new.seat) c.enter-shelf.result c.flush-answer.new.self IsFlushNote told
    in_turn.view in_turn.seen in_turn.mine in_turn.own c.leave.ensures.view in_turn.origin
