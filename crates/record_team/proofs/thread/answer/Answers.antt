use Rattle.std.proofs.Common.{⊎_elim, ℕ, ◌%◌, [], ◌∷◌, ◌++◌, ap, ◌∙◌}
use Rattle.turn_desk.specs.Seats.{view_of}
use Rattle.record_words.specs.Recorded.{skipped, refused, read}
use Rattle.record_words.specs.declared.note.RecordReply.{RecordReply}
use Rattle.record_dedup.specs.Kept.{recorder_of}
use Rattle.record_threads.specs.Threads.{HasCalls}
use Rattle.record_team.proofs.Answering.{on_err, stays_recorded, skips, declines, replies, recorded_too}
use Rattle.record_team.proofs.thread.answer.Goals as goal

pub returns-in-Skipped-clause-answered : goal.returns-in-Skipped-clause-answered
returns-in-Skipped-clause-answered g c = λ origin done threads thread work count own has.
    rw c.in-Skipped.is (skips threads thread (recorder_of origin) done _ _ _ has (c.threads_make_records.ensures.passed threads thread done skipped))

pub returns-in_ok-push-in-Refused-clause-answered : goal.returns-in_ok-push-in-Refused-clause-answered
returns-in_ok-push-in-Refused-clause-answered g c = λ origin done threads thread work count own has.
    rw (c.in-Refused.is, c.in_ok-push-in-Refused.ensures.ok, ← count)
    (declines threads thread (recorder_of origin) done _ _ _ has c.in-Refused.cause (c.threads_make_records.ensures.passed threads thread done (refused c.in-Refused.cause)) (ap (λ (z : ℕ). z % threads) count ∙ own))

pub returns-in_ok-push-in-Read-clause-answered : goal.returns-in_ok-push-in-Read-clause-answered
returns-in_ok-push-in-Read-clause-answered g c = λ origin done threads thread work count own has.
    rw (c.in-Read.is, c.in_ok-push-in-Read.ensures.ok, ← count)
    (replies threads thread (recorder_of origin) done _ _ _ has c.in-Read.key c.in-Read.payload c.in_ok-reply-in-Read.reply _ (c.threads_make_records.ensures.one_more threads thread done c.in-Read.key c.in-Read.payload) (ap (λ (z : ℕ). z % threads) count ∙ own)
    (c.in_ok-reply-in-Read.ensures.recorded origin has.calls work has.has))

pub returns-in_err-reply-in-Read-clause-ended : goal.returns-in_err-reply-in-Read-clause-ended
returns-in_err-reply-in-Read-clause-ended g c = λ origin done threads thread work count own has.
    rw c.in-Read.is
    (on_err c.from_residual-in_err-reply-in-Read.result (⊎_elim
    (λ (same : HasCalls (recorder_of origin) (view_of c.record.new.seat).seen (view_of c.args.seat.now).number has.calls). stays_recorded threads thread (recorder_of origin) done _ _ _ has (read c.in-Read.key c.in-Read.payload) _ same)
    (λ (more : (reply : RecordReply) × HasCalls (recorder_of origin) (view_of c.record.new.seat).seen (view_of c.args.seat.now).number (has.calls ++ record { key = c.in-Read.key; payload = c.in-Read.payload; reply = reply } ∷ [])).
    recorded_too threads thread (recorder_of origin) done _ _ _ has c.in-Read.key c.in-Read.payload more.0 _ (c.threads_make_records.ensures.one_more threads thread done c.in-Read.key c.in-Read.payload) (ap (λ (z : ℕ). z % threads) count ∙ own) more.1)
    (c.in_err-reply-in-Read.ensures.ended origin has.calls work has.has)))

pub returns-in_err-push-in-Read-clause-ended : goal.returns-in_err-push-in-Read-clause-ended
returns-in_err-push-in-Read-clause-ended g c = λ origin done threads thread work count own has.
    rw c.in-Read.is
    (on_err c.from_residual-in_err-push-in-Read.result (recorded_too threads thread (recorder_of origin) done _ _ _ has c.in-Read.key c.in-Read.payload c.in_ok-reply-in-Read.reply _ (c.threads_make_records.ensures.one_more threads thread done c.in-Read.key c.in-Read.payload) (ap (λ (z : ℕ). z % threads) count ∙ own)
    (c.in_ok-reply-in-Read.ensures.recorded origin has.calls work has.has)))
