use Rattle.std.proofs.Common.{◌≡◌, ℕ, ◌%◌, [], ◌∷◌, ◌++◌, length, sym, ap, ◌∙◌, subst}
use Rattle.turn_desk.specs.Seats.{view_of}
use Rattle.record_words.specs.Recorded.{Line}
use Rattle.record_dedup.specs.Kept.{recorder_of}
use Rattle.record_lines.specs.Lines.{line_of}
use Rattle.record_team.specs.Work.{HasRecorded}
use Rattle.record_team.proofs.Answering.{on_err, leaves, answered_recorded, recorded_still}
use Rattle.record_team.proofs.mate.Teammate+RecordSeat+D+L.take_line.Goals as goal

pub returns-then-number-threads-clause-answered : goal.returns-then-number-threads-clause-answered
returns-then-number-threads-clause-answered g c = λ origin done rest line work count next has.
    leaves c.args.threads c.args.self.now.thread (recorder_of origin) done _ _ _ has line (c.threads_make_records.ensures.passed c.args.threads c.args.self.now.thread done line) (λ key payload. c.threads_make_records.ensures.one_more c.args.threads c.args.self.now.thread done key payload)
    (λ (e : length done % c.args.threads ≡ c.args.self.now.thread). c.if-number-threads.true (ap (λ (z : ℕ). z % c.args.threads) (sym count) ∙ e))

pub flush_full-requires-clause-work : goal.flush_full-requires-clause-work
flush_full-requires-clause-work g c = (c.requires.work.0, c.answer.ensures.work c.requires.work.0 c.requires.work.1)

pub returns-clause-ended : goal.returns-clause-ended
returns-clause-ended g c = λ origin done rest line work count next has.
    let read = rw c.in-Some.is at c.in_ok-line.ensures.line in
    let both : line ∷ rest ≡ line_of c.in-Some.line ∷ g.L.Lines.rest c.next.new.self = sym next ∙ read in
    let same : line ≡ line_of c.in-Some.line = cc in
    let later = rw c.answer.ensures.same.number at (c.flush_full.ensures.recorded (recorder_of origin)) in
    let answered = c.in_ok-waiting.ensures.answered origin done c.args.threads c.args.self.now.thread work count c.if-number-threads.false has in
    on_err c.flush_full.result
    (subst (λ (z : Line _). HasRecorded (recorder_of origin) (done ++ z ∷ []) c.args.threads c.args.self.now.thread (view_of c.args.self.now.seat).number (view_of c.flush_full.new.seat).seen) (sym same)
    (recorded_still (recorder_of origin) (done ++ line_of c.in-Some.line ∷ []) c.args.threads c.args.self.now.thread _ _ _ later
    (answered_recorded c.args.threads c.args.self.now.thread (recorder_of origin) (done ++ line_of c.in-Some.line ∷ []) _ _ _ answered)))
