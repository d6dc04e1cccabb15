use Rattle.std.proofs.Common.{List, [], ◌∷◌, ◌++◌, length, refl, sym, ap, ◌∙◌, subst, append_assoc, append-nil, length-append, arith}
use Rattle.turn_desk.specs.Seats.{view_of}
use Rattle.record_words.specs.declared.note.FullNote.{FullNote}
use Rattle.record_words.specs.Recorded.{Line}
use Rattle.record_dedup.specs.Kept.{recorder_of}
use Rattle.record_team.specs.Batched.{Waits}
use Rattle.record_team.specs.Work.{HasAnswered}
use Rattle.record_team.proofs.Answering.{some_line, no_line, answered_recorded, answered_still, recorded_of_all}
use Rattle.record_team.proofs.mate.Teammate+RecordSeat+D+L.work.Goals as goal

pub lines-init : goal.lines-init
lines-init g c = record {
  thread = refl;
  seat = refl;
  work = λ origin w. w;
  same = record { number = refl; origin = refl };
  turns = omega (arith, c.requires.turns);
  few = omega arith;
  waits = subst (λ (l : List FullNote). Waits 0 l 0) (sym c.requires.none) refl;
  done = [];
  cut = refl;
  count = refl;
  answered = λ origin w. record {
    calls = [];
    has = c.seats_have_their_calls.ensures.none (recorder_of origin) (view_of c.args.self.now.seat).seen (view_of c.args.self.now.seat).number (w.own ∙ c.requires.none);
    given = refl;
    told_is = c.requires.silent;
  };
}

pub take_line-requires-clause-work : goal.take_line-requires-clause-work
take_line-requires-clause-work g c = (c.requires.work.0, c.lines.invariant.work c.requires.work.0 c.requires.work.1)

pub flush-requires-clause-work : goal.flush-requires-clause-work
flush-requires-clause-work g c = (c.requires.work.0, c.lines.invariant.work c.requires.work.0 c.requires.work.1)

pub lines-smaller : goal.lines-smaller
lines-smaller g c =
    let next = some_line (g.L.Lines.rest c.lines.self.lines) c.is_at_end.result c.is_at_end.ensures c.lines-test.true in
    let before = ap length next.2 in
    let after = ap length (c.in_ok-waiting.ensures.rest next.0 next.1 next.2) in
    omega arith

pub lines-preserved : goal.lines-preserved
lines-preserved g c =
    let at = c.lines.invariant in
    let next = some_line (g.L.Lines.rest c.lines.self.lines) c.is_at_end.result c.is_at_end.ensures c.lines-test.true in
    let ok = c.in_ok-waiting.ensures in
    let rest = ok.rest next.0 next.1 next.2 in
    record {
      thread = c.take_line.ensures.thread ∙ at.thread;
      seat = c.take_line.ensures.seat ∙ at.seat;
      work = λ origin w. c.take_line.ensures.work origin (at.work origin w);
      same = record { number = c.take_line.ensures.same.number ∙ at.same.number; origin = c.take_line.ensures.same.origin ∙ at.same.origin };
      turns = omega (arith, c.take_line.ensures.turns, at.turns);
      few = ok.left;
      waits = ok.waits at.waits;
      done = at.done ++ next.0 ∷ [];
      cut =
          at.cut
          ∙ (ap (λ (l : List (Line _)). at.done ++ l) (next.2 ∙ ap (λ (l : List (Line _)). next.0 ∷ l) (sym rest))
          ∙ sym (append_assoc at.done (next.0 ∷ []) (g.L.Lines.rest c.take_line.new.self.lines)));
      count = omega (arith, length-append at.done (next.0 ∷ []), at.count);
      answered = λ origin w.
          let step = rw (at.thread, at.same.number) at (ok.answered origin at.done next.1 next.0 (at.work origin w) at.count next.2) in
          step (at.answered origin w);
    }

pub returns-in_err-waiting-clause-recorded : goal.returns-in_err-waiting-clause-recorded
returns-in_err-waiting-clause-recorded g c = λ origin w.
    let at = c.lines.invariant in
    let next = some_line (g.L.Lines.rest c.lines.self.lines) c.is_at_end.result c.is_at_end.ensures c.lines-test.true in
    let step = rw (at.thread, at.same.number) at (c.in_err-waiting.ensures.ended origin at.done next.1 next.0 (at.work origin w) at.count next.2) in
    recorded_of_all (recorder_of origin) (g.L.Lines.rest c.args.self.now.lines) (at.done ++ next.0 ∷ []) next.1 c.args.threads c.args.self.now.thread _ _
    (at.cut ∙ (ap (λ (l : List (Line _)). at.done ++ l) next.2 ∙ sym (append_assoc at.done (next.0 ∷ []) next.1)))
    (step (at.answered origin w))

pub returns-in_err-flush-clause-recorded : goal.returns-in_err-flush-clause-recorded
returns-in_err-flush-clause-recorded g c = λ origin w.
    let at = c.lines.invariant in
    let none = no_line (g.L.Lines.rest c.lines.self.lines) c.is_at_end.result c.is_at_end.ensures c.lines-test.false in
    let later = rw at.same.number at (c.flush.ensures.recorded (recorder_of origin)) in
    recorded_of_all (recorder_of origin) (g.L.Lines.rest c.args.self.now.lines) at.done (g.L.Lines.rest c.lines.self.lines) c.args.threads c.args.self.now.thread _ _ at.cut
    (answered_recorded c.args.threads c.args.self.now.thread (recorder_of origin) at.done _ _ _
    (answered_still (recorder_of origin) at.done c.args.threads c.args.self.now.thread _ _ _ _ later (at.answered origin w)))

pub returns-clause-recorded : goal.returns-clause-recorded
returns-clause-recorded g c = λ origin w.
    let at = c.lines.invariant in
    let later = rw at.same.number at (c.flush.ensures.recorded (recorder_of origin)) in
    recorded_of_all (recorder_of origin) (g.L.Lines.rest c.args.self.now.lines) at.done (g.L.Lines.rest c.lines.self.lines) c.args.threads c.args.self.now.thread _ _ at.cut
    (answered_recorded c.args.threads c.args.self.now.thread (recorder_of origin) at.done _ _ _
    (answered_still (recorder_of origin) at.done c.args.threads c.args.self.now.thread _ _ _ _ later (at.answered origin w)))

pub returns-clause-answered : goal.returns-clause-answered
returns-clause-answered g c = λ origin w.
    let at = c.lines.invariant in
    let none = no_line (g.L.Lines.rest c.lines.self.lines) c.is_at_end.result c.is_at_end.ensures c.lines-test.false in
    let later = rw at.same.number at (c.flush.ensures.recorded (recorder_of origin)) in
    let all = at.cut ∙ (ap (λ (l : List (Line _)). at.done ++ l) none ∙ append-nil at.done) in
    subst (λ (l : List (Line _)). HasAnswered (recorder_of origin) l c.args.threads c.args.self.now.thread (view_of c.args.self.now.seat).number (view_of c.flush.new.seat).seen c.lines.self.told) (sym all)
    (answered_still (recorder_of origin) at.done c.args.threads c.args.self.now.thread _ _ _ _ later (at.answered origin w))
