use Rattle.std.proofs.Common.{◌≡◌, ◌+◌, MatchOption, Result, Ok, Err, ℕ, List, length, sym, ap, ◌∙◌, subst}
use Rattle.turn_desk.specs.Seats.{view_of}
use Rattle.record_dedup.specs.Steps.{reply_told}
use Rattle.record_threads.specs.Ties.{IsRecordNote}
use Rattle.record_threads.specs.Shelves.{IsNoted}
use Rattle.record_threads.proofs.Turns.{goes_on, called, receipt_place}
use Rattle.record_threads.proofs.recorder.record_at.Goals as goal

pub leave-requires-clause-story : goal.leave-requires-clause-story
leave-requires-clause-story g c =
    let told = subst (λ (k : ℕ). MatchOption (reply_told c.record-answer.result) (c.record-answer.new.self ≡ c.enter-shelf.result) (λ reply. IsNoted c.enter-shelf.result k (IsRecordNote c.args.prepared.now.key c.as_slice.result.now reply) c.record-answer.new.self)) c.number.ensures c.record-answer.ensures.told in
    let more = goes_on (reply_told c.record-answer.result) c.enter-shelf.result c.record-answer.new.self (view_of c.enter-shelf.new.seat).number (IsRecordNote c.args.prepared.now.key c.as_slice.result.now) told in
    (c.enter-shelf.result.story, more.0, ap (λ v. v.inside) c.enter-shelf.ensures.view, more.1, more.2)

pub returns-in-Ok-clause-told : goal.returns-in-Ok-clause-told
returns-in-Ok-clause-told g c =
    let in_turn = c.enter-shelf.ensures in
    let number = c.number.ensures ∙ ap (λ v. v.number) in_turn.view in
    let by_number = subst (λ (k : ℕ). MatchOption (reply_told (Ok c.in-Ok.ack)) (c.record-answer.new.self ≡ c.enter-shelf.result) (λ reply. IsNoted c.enter-shelf.result k (IsRecordNote c.args.prepared.now.key c.as_slice.result.now reply) c.record-answer.new.self)) number c.in-Ok.ensures.told in
    let told = subst (λ (p : List ℕ). MatchOption (reply_told (Ok c.in-Ok.ack)) (c.record-answer.new.self ≡ c.enter-shelf.result) (λ reply. IsNoted c.enter-shelf.result (view_of c.args.seat.now).number (IsRecordNote c.args.prepared.now.key p reply) c.record-answer.new.self)) c.as_slice.ensures by_number in
    called c.turns_add_own_notes.ensures.rest c.turns_add_own_notes.ensures.turn (reply_told (Ok c.in-Ok.ack)) (view_of c.args.seat.now) (view_of c.enter-shelf.new.seat) (view_of c.leave.new.seat) c.enter-shelf.result c.record-answer.new.self
    (IsRecordNote c.args.prepared.now.key c.args.prepared.now.payload) told in_turn.view in_turn.seen in_turn.mine in_turn.own c.leave.ensures.view in_turn.origin

pub returns-in-Ok-clause-place : goal.returns-in-Ok-clause-place
returns-in-Ok-clause-place g c =
    ap (λ v. length v.seen) c.leave.ensures.view
    ∙ (receipt_place c.in-Ok.ack c.enter-shelf.result c.record-answer.new.self c.number.result (IsRecordNote c.args.prepared.now.key c.as_slice.result.now) c.in-Ok.ensures.told ∙ ap (λ (n : ℕ). n + 1) (sym c.count-at.ensures))

pub returns-in-Err-clause-told : goal.returns-in-Err-clause-told
returns-in-Err-clause-told g c =
    let in_turn = c.enter-shelf.ensures in
    let number = c.number.ensures ∙ ap (λ v. v.number) in_turn.view in
    let by_number = subst (λ (k : ℕ). MatchOption (reply_told (Err c.in-Err.error)) (c.record-answer.new.self ≡ c.enter-shelf.result) (λ reply. IsNoted c.enter-shelf.result k (IsRecordNote c.args.prepared.now.key c.as_slice.result.now reply) c.record-answer.new.self)) number c.in-Err.ensures.told in
    let told = subst (λ (p : List ℕ). MatchOption (reply_told (Err c.in-Err.error)) (c.record-answer.new.self ≡ c.enter-shelf.result) (λ reply. IsNoted c.enter-shelf.result (view_of c.args.seat.now).number (IsRecordNote c.args.prepared.now.key p reply) c.record-answer.new.self)) c.as_slice.ensures by_number in
    called c.turns_add_own_notes.ensures.rest c.turns_add_own_notes.ensures.turn (reply_told (Err c.in-Err.error)) (view_of c.args.seat.now) (view_of c.enter-shelf.new.seat) (view_of c.leave.new.seat) c.enter-shelf.result c.record-answer.new.self
    (IsRecordNote c.args.prepared.now.key c.args.prepared.now.payload) told in_turn.view in_turn.seen in_turn.mine in_turn.own c.leave.ensures.view in_turn.origin
