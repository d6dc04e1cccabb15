use Rattle.std.proofs.Common.{MatchOption, Option, [], sym, ◌∙◌, subst}
use Rattle.turn_desk.specs.Story.{Adds}
use Rattle.turn_desk.specs.Seats.{view_of}
use Rattle.record_words.specs.declared.note.RecordReply.{RecordReply}
use Rattle.record_threads.specs.Calls.{seat_of, HasNoted}
use Rattle.record_threads.specs.Ties.{IsRecordNote}
use Rattle.record_team.proofs.Waiting.{waits_recorded}
use Rattle.record_team.proofs.thread.record.Goals as goal

pub returns-in-Some-clause-recorded : goal.returns-in-Some-clause-recorded
returns-in-Some-clause-recorded g c =
    let noted = subst (λ (o : Option RecordReply). MatchOption o (Adds seat_of (view_of c.args.seat.now) [] (view_of c.record_at-answer.new.seat)) (λ reply. HasNoted (view_of c.args.seat.now) (IsRecordNote c.args.prepared.now.key c.args.prepared.now.payload reply) (view_of c.record_at-answer.new.seat)))
    (sym c.reply_received.ensures ∙ c.in-Some.is) c.record_at-answer.ensures.told in
    λ origin calls work has. c.seats_have_their_calls.ensures.call _ _ c.args.prepared.now.key c.args.prepared.now.payload c.in-Some.reply origin calls noted work.origin_is has

pub returns-in-Some-clause-waits : goal.returns-in-Some-clause-waits
returns-in-Some-clause-waits g c =
    let noted = subst (λ (o : Option RecordReply). MatchOption o (Adds seat_of (view_of c.args.seat.now) [] (view_of c.record_at-answer.new.seat)) (λ reply. HasNoted (view_of c.args.seat.now) (IsRecordNote c.args.prepared.now.key c.args.prepared.now.payload reply) (view_of c.record_at-answer.new.seat)))
    (sym c.reply_received.ensures ∙ c.in-Some.is) c.record_at-answer.ensures.told in
    waits_recorded _ _ c.args.prepared.now.key c.args.prepared.now.payload c.in-Some.reply noted
