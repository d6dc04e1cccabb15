use Rattle.std.proofs.Common.{List, ℕ, sym, subst, OnOk}
use Rattle.foz_entry.specs.declared.cut.Entry.{Entry}
use Rattle.foz_archive.specs.Reading.{magic, header, IsAccepted}
use Rattle.foz_archive.specs.Opened.{Begins}
use Rattle.foz_archive.proofs.Opened.{begun, new_mends, nothing_mends}
use Rattle.foz_archive.proofs.opening.begin_new.Goals as goal

pub returns-then-is_new-clause-accepted : goal.returns-then-is_new-clause-accepted
unfolding header magic
returns-then-is_new-clause-accepted g c told =
    let d = g.D.Disk in
    let old = d.content c.args.disk.now in
    let new = d.content c.write_synced.new.disk in
    subst (λ (b : _). OnOk c.write_synced.result ((entries : List Entry) (end : ℕ) → Begins b old entries end → IsAccepted new entries end)) (sym c.if-is_new.true)
    (begun old new c.write_synced.result (c.write_synced.ensures.written told))

pub returns-then-is_new-clause-mends : goal.returns-then-is_new-clause-mends
returns-then-is_new-clause-mends g c = λ entries end begins.
    let d = g.D.Disk in
    new_mends d.tells_content d.tells_images g.met.D.Disk.tells_both d.content d.history _ _ c.write_synced.ensures.any_moment entries end
    (λ told. subst (λ (b : _). Begins b (d.content c.args.disk.now) entries end) c.if-is_new.true (begins told))

pub returns-else-is_new-clause-accepted : goal.returns-else-is_new-clause-accepted
returns-else-is_new-clause-accepted g c told = λ entries end begins.
    subst (λ (b : _). Begins b (g.D.Disk.content c.args.disk.now) entries end) c.if-is_new.false begins

pub returns-else-is_new-clause-mends : goal.returns-else-is_new-clause-mends
returns-else-is_new-clause-mends g c = λ entries end begins.
    let d = g.D.Disk in
    nothing_mends d.tells_content d.tells_images g.met.D.Disk.tells_both d.content d.history g.met.D.Disk.content_is_now _ c.requires entries end
    (λ told. subst (λ (b : _). Begins b (d.content c.args.disk.now) entries end) c.if-is_new.false (begins told))
