use Rattle.std.proofs.Common.{sym, ◌∙◌, subst}
use Rattle.disk_model.specs.Disk.{latest, NothingPending, GoesOn}
use Rattle.record_team.proofs.Leaving.{opening_leaves, book_leaves}
use Rattle.record_team.proofs.capture.record_capture_by_team.Goals as goal

pub returns-in-Err-clause-leaves : goal.returns-in-Err-clause-leaves
returns-in-Err-clause-leaves g c told durable =
    let laws = g.met.D.Disk g.world.𝓛 g.world.𝓜 g.world.𝓡 ((λ s x. x), (λ x. x), (λ x. x), λ x. x) in
    opening_leaves (g.L.Lines.rest c.args.lines) c.args.threads c.requires.threads.0 c.readings_are_unique.ensures.one_content _ _ durable (laws.content_is_now c.args.disk told) _ (c.in-Err.ensures.any_moment told)

pub returns-in-Ok-outcome-clause-leaves : goal.returns-in-Ok-outcome-clause-leaves
returns-in-Ok-outcome-clause-leaves g c told durable =
    let laws = g.met.D.Disk g.world.𝓛 g.world.𝓜 g.world.𝓡 ((λ s x. x), (λ x. x), (λ x. x), λ x. x) in
    let opened = c.in-Ok.ensures.whole in
    let ended = c.record_by_team-book.ensures.same in
    let began = ended.0 ∙ opened.3 in
    let goes_on = subst (λ d. GoesOn (g.D.Disk.history d) (g.D.Disk.history c.record_by_team-book.result.book.disk)) began (c.close.ensures.kept.goes_on told) in
    let since = rw began at (c.close.ensures.kept.since told) in
    rw c.close.ensures.disk
    (book_leaves (g.L.Lines.rest c.args.lines) c.args.threads c.requires.threads.0 c.readings_are_unique.ensures.one_content _ _ durable (laws.content_is_now c.args.disk told) _ goes_on
    c.in-Ok.book.entries c.record_by_team-book.result.book.entries (c.in-Ok.ensures.held (laws.tells_both told)) c.record_by_team-book.ensures.added c.record_by_team-book.result.book.opened (ended.1 ∙ opened.0) since)

pub returns-in-Ok-outcome-clause-durable : goal.returns-in-Ok-outcome-clause-durable
returns-in-Ok-outcome-clause-durable g c told ok =
    let written = rw c.in-Ok-outcome.is at c.record_by_team-book.ensures.written in
    subst (λ d. NothingPending (latest (g.D.Disk.history d))) (sym c.close.ensures.disk) (written.settled told)

pub returns-in-Err-outcome-clause-leaves : goal.returns-in-Err-outcome-clause-leaves
returns-in-Err-outcome-clause-leaves g c told durable =
    let laws = g.met.D.Disk g.world.𝓛 g.world.𝓜 g.world.𝓡 ((λ s x. x), (λ x. x), (λ x. x), λ x. x) in
    let opened = c.in-Ok.ensures.whole in
    let ended = c.record_by_team-book.ensures.same in
    let began = ended.0 ∙ opened.3 in
    let goes_on = subst (λ d. GoesOn (g.D.Disk.history d) (g.D.Disk.history c.record_by_team-book.result.book.disk)) began (c.close-in-Err-outcome.ensures.kept.goes_on told) in
    let since = rw began at (c.close-in-Err-outcome.ensures.kept.since told) in
    rw c.close-in-Err-outcome.ensures.disk
    (book_leaves (g.L.Lines.rest c.args.lines) c.args.threads c.requires.threads.0 c.readings_are_unique.ensures.one_content _ _ durable (laws.content_is_now c.args.disk told) _ goes_on
    c.in-Ok.book.entries c.record_by_team-book.result.book.entries (c.in-Ok.ensures.held (laws.tells_both told)) c.record_by_team-book.ensures.added c.record_by_team-book.result.book.opened (ended.1 ∙ opened.0) since)
