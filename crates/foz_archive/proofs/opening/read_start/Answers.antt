use Rattle.std.proofs.Common.{Ok}
use Rattle.disk_model.proofs.Calls.{sync_settles}
use Rattle.foz_archive.proofs.ReadOnly.{where_ok, reads_settle, sync_leaves, sync_reads}
use Rattle.foz_archive.proofs.opening.read_start.Goals as goal

pub returns-in_err-sync-clause-any_moment : goal.returns-in_err-sync-clause-any_moment
returns-in_err-sync-clause-any_moment g c told =
    let d = g.D.Disk in
    let law = g.met.D.Disk in
    sync_leaves d.tells_images d.content d.history law.content_is_now law.content_is_image told _ _ c.sync.result (c.sync.ensures.images told)

pub returns-clause-durable : goal.returns-clause-durable
returns-clause-durable g c told =
    where_ok c.start_of.result _ (reads_settle _ _ (c.start_of.ensures.only_read.images told) (sync_settles _ _ (Ok tt) (c.in_ok-sync.ensures.images told)))

pub returns-clause-any_moment : goal.returns-clause-any_moment
returns-clause-any_moment g c told =
    let d = g.D.Disk in
    let law = g.met.D.Disk in
    sync_reads d.tells_images d.content d.history law.content_is_now law.content_is_image told _ _ _
    (sync_leaves d.tells_images d.content d.history law.content_is_now law.content_is_image told _ _ c.sync.result (c.sync.ensures.images told))
    (sync_settles _ _ (Ok tt) (c.in_ok-sync.ensures.images told)) (c.sync.ensures.content (law.tells_both told)) (c.start_of.ensures.only_read.images told)
