use Rattle.std.proofs.Common.{subst}
use Rattle.foz_archive.specs.Opened.{Unmended, Mends, opened_disk}
use Rattle.foz_archive.proofs.Opened.{then_mends}
use Rattle.foz_archive.proofs.opening.Opening.settle.Goals as goal

pub go_on-requires-clause-accepted : goal.go_on-requires-clause-accepted
go_on-requires-clause-accepted g c told = c.in-Ok.ensures.accepted told c.self.inside.start.entries c.self.inside.start.end (c.self.invariant.0.begins told)

pub returns-in-Ok-clause-mends : goal.returns-in-Ok-clause-mends
returns-in-Ok-clause-mends g c =
    let d = g.D.Disk in
    let i = c.self.inside in
    subst (λ (opening : Unmended _). Mends d.tells_content d.tells_images d.content d.history opening.disk (opened_disk c.go_on.result) opening.entries) c.self.view_is
    (then_mends d.tells_content d.tells_images g.met.D.Disk.tells_both d.content d.history i.disk c.begin_new.new.disk (opened_disk c.go_on.result) i.start.entries
    (c.begin_new.ensures.mends i.start.entries i.start.end c.self.invariant.0.begins) c.go_on.ensures.mends)

pub returns-in-Err-clause-mends : goal.returns-in-Err-clause-mends
returns-in-Err-clause-mends g c =
    let d = g.D.Disk in
    let i = c.self.inside in
    subst (λ (opening : Unmended _). Mends d.tells_content d.tells_images d.content d.history opening.disk c.begin_new.new.disk opening.entries) c.self.view_is
    (c.begin_new.ensures.mends i.start.entries i.start.end c.self.invariant.0.begins)
