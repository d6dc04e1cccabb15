use Rattle.foz_archive.specs.Opened.{opened_disk}
use Rattle.foz_archive.proofs.Opened.{opened_holds, opening_leaves, opening_keeps, opening_reads}
use Rattle.foz_archive.proofs.archive.Archive.open.Goals as goal

pub returns-clause-held : goal.returns-clause-held
returns-clause-held g c told =
    opened_holds c.settle.result (g.D.Disk.content c.args.disk) c.in_ok-read.field-0.entries c.in_ok-read.field-0.end c.settle.ensures.opened (c.in_ok-read.ensures.held told)

pub returns-clause-any_moment : goal.returns-clause-any_moment
returns-clause-any_moment g c told =
    let d = g.D.Disk in
    opening_leaves d.tells_content d.tells_images g.met.D.Disk.tells_both d.content d.history c.args.disk c.in_ok-read.field-0.disk (opened_disk c.settle.result) c.in_ok-read.field-0.entries
    c.in_ok-read.ensures.content c.in_ok-read.ensures.held c.in_ok-read.ensures.any_moment c.settle.ensures.mends told

pub returns-clause-untouched : goal.returns-clause-untouched
returns-clause-untouched g c told closed =
    let d = g.D.Disk in
    opening_keeps d.tells_content d.tells_images g.met.D.Disk.tells_both d.content d.history c.args.disk c.in_ok-read.field-0.disk (opened_disk c.settle.result) c.in_ok-read.field-0.entries
    c.in_ok-read.ensures.content c.in_ok-read.ensures.held c.in_ok-read.ensures.any_moment c.settle.ensures.mends told closed

pub returns-clause-only_read : goal.returns-clause-only_read
returns-clause-only_read g c told closed =
    let d = g.D.Disk in
    opening_reads d.tells_content d.tells_images g.met.D.Disk.tells_both d.content d.history c.args.disk c.in_ok-read.field-0.disk (opened_disk c.settle.result) c.in_ok-read.field-0.entries
    c.in_ok-read.ensures.content c.in_ok-read.ensures.held c.in_ok-read.ensures.any_moment c.settle.ensures.mends g.met.D.Disk.content_is_image told closed
