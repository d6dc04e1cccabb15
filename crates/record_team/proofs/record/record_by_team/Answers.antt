use Rattle.std.proofs.Common.{◌≡◌, ⊎_elim, ◌≤◌, ℕ, IfOk, sym, ap, ◌∙◌, subst, arith}
use Rattle.disk_model.specs.Faults.{Rose}
use Rattle.foz_words.specs.declared.key.Key.{Key}
use Rattle.turn_desk.specs.Seats.{view_of}
use Rattle.record_words.specs.declared.note.FullNote.{FullNote}
use Rattle.record_words.specs.declared.note.RecordCall.TheVariants.{Record}
use Rattle.record_words.specs.Story.{At}
use Rattle.record_dedup.specs.Kept.{recorder_of}
use Rattle.record_dedup.specs.Steps.{flush_told, IsFlushStep}
use Rattle.record_lines.specs.Added.{AreAdded}
use Rattle.record_lines.specs.Recording.{AreRecorded}
use Rattle.record_team.specs.Team.{HaveAnswered}
use Rattle.record_team.proofs.Adding.{nothing_added, story_adds}
use Rattle.record_team.proofs.Backs.{each_ok}
use Rattle.record_team.proofs.Reporting.{are_recorded}
use Rattle.record_team.proofs.record.record_by_team.Goals as goal

pub returns-in-Err-clause-added : goal.returns-in-Err-clause-added
returns-in-Err-clause-added g c =
    subst (λ b. AreAdded c.args.book.entries (g.L.Lines.rest c.args.lines) b.entries) (sym c.in-Err.ensures.refused) (nothing_added c.args.book.entries (g.L.Lines.rest c.args.lines))

pub returns-clause-recorded : goal.returns-clause-recorded
returns-clause-recorded g c =
    let origin = recorder_of c.args.book in
    let lines = g.L.Lines.rest c.args.lines in
    let root = view_of c.work_together-answers.new.root in
    let led = c.close-book.ensures.led c.args.book (c.work_together-answers.ensures.origin ∙ ap (λ v. v.origin) c.in-Ok.ensures.root) in
    let back = c.work_together-answers.ensures.back c.args.book c.in-Ok.ensures.root in
    let silent = c.seats_have_their_calls.ensures.none origin root.seen 0 (c.close-book.ensures.mine ∙ c.work_together-answers.ensures.mine) in
    let nobody = λ (p : ℕ) (n : FullNote) (key : Key) (at : At root.seen p n) (call : n.note.call ≡ Record key). back.seats n.note.seat (c.seats_have_their_calls.ensures.nobody_else origin root.seen root.joined c.close-book.ensures.others silent p n key at call) in
    each_ok c.reported.result (λ report. AreRecorded c.args.book.entries lines c.args.threads c.flush-flushed.new.self.entries report.answers) (λ report ended.
    let whole = rw ended at c.reported.ensures.whole in
    let step = subst (λ r. IsFlushStep (recorder_of c.close-book.result) (flush_told r) (recorder_of c.flush-flushed.new.self)) whole.1 c.flush-flushed.ensures.step in
    let answered = subst (λ r. IfOk r (HaveAnswered origin lines c.args.threads root.seen)) whole.0 (c.work_together-answers.ensures.answered c.args.book c.in-Ok.ensures.root) in
    subst (λ es. AreRecorded c.args.book.entries lines c.args.threads es report.answers) (ap (λ s. s.entries) led.leads_is ∙ sym c.flush-flushed.ensures.entries)
    (are_recorded c.threads_make_records.ensures.recorded origin root.seen lines c.args.threads c.requires.threads.0 c.requires.whole led.legal (ap (λ s. s.broken) led.leads_is ∙ step.0.0) nobody report.answers answered))

pub returns-clause-added : goal.returns-clause-added
returns-clause-added g c =
    let origin = recorder_of c.args.book in
    let lines = g.L.Lines.rest c.args.lines in
    let root = view_of c.work_together-answers.new.root in
    let led = c.close-book.ensures.led c.args.book (c.work_together-answers.ensures.origin ∙ ap (λ v. v.origin) c.in-Ok.ensures.root) in
    let back = c.work_together-answers.ensures.back c.args.book c.in-Ok.ensures.root in
    let silent = c.seats_have_their_calls.ensures.none origin root.seen 0 (c.close-book.ensures.mine ∙ c.work_together-answers.ensures.mine) in
    let nobody = λ (p : ℕ) (n : FullNote) (key : Key) (at : At root.seen p n) (call : n.note.call ≡ Record key). back.seats n.note.seat (c.seats_have_their_calls.ensures.nobody_else origin root.seen root.joined c.close-book.ensures.others silent p n key at call) in
    subst (λ es. AreAdded c.args.book.entries lines es) (ap (λ s. s.entries) led.leads_is ∙ sym c.flush-flushed.ensures.entries)
    (story_adds origin root.seen lines c.args.threads back.recorded nobody (c.stories_add_each_key_once.ensures.apart origin root.seen led.legal))

pub returns-clause-same : goal.returns-clause-same
returns-clause-same g c =
    let led = c.close-book.ensures.led c.args.book (c.work_together-answers.ensures.origin ∙ ap (λ v. v.origin) c.in-Ok.ensures.root) in
    (c.flush-flushed.ensures.rest.0 ∙ led.began, c.flush-flushed.ensures.rest.1 ∙ led.opened)

pub returns-clause-later : goal.returns-clause-later
returns-clause-later g c =
    let led = c.close-book.ensures.led c.args.book (c.work_together-answers.ensures.origin ∙ ap (λ v. v.origin) c.in-Ok.ensures.root) in
    let before : g.D.Disk.faults c.args.book.began ≤ g.D.Disk.faults c.close-book.result.disk = subst (λ d. g.D.Disk.faults d ≤ g.D.Disk.faults c.close-book.result.disk) led.began c.close-book.ensures.kept.later in
    let since = c.flush-flushed.ensures.later in
    omega arith

rose_on : (before mid after : ℕ) → Rose before mid → mid ≤ after → Rose before after
rose_on before mid after rose le = omega arith

rose_since : (before mid after : ℕ) → before ≤ mid → Rose mid after → Rose before after
rose_since before mid after le rose = omega arith

pub returns-clause-fault : goal.returns-clause-fault
returns-clause-fault g c = λ ended.
    let led = c.close-book.ensures.led c.args.book (c.work_together-answers.ensures.origin ∙ ap (λ v. v.origin) c.in-Ok.ensures.root) in
    let disk = g.D.Disk.faults c.close-book.result.disk in
    let kept = c.close-book.ensures.kept in
    ⊎_elim
    (λ broken.
    let step = subst (λ r. IsFlushStep (recorder_of c.close-book.result) (flush_told r) (recorder_of c.flush-flushed.new.self)) broken c.flush-flushed.ensures.step in
    rose_on (g.D.Disk.faults c.args.book.began) disk (g.D.Disk.faults c.flush-flushed.new.self.disk) (subst (λ d. Rose (g.D.Disk.faults d) disk) led.began (kept.fault step.0)) c.flush-flushed.ensures.later)
    (λ failed. rose_since (g.D.Disk.faults c.args.book.began) disk (g.D.Disk.faults c.flush-flushed.new.self.disk) (subst (λ d. g.D.Disk.faults d ≤ disk) led.began kept.later) (c.flush-flushed.ensures.fault failed))
    (c.reported.ensures.fault ended)
