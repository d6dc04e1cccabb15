use Rattle.foz_archive.proofs.ReadOnly.{only_read_on}
use Rattle.foz_archive.proofs.opening.start_of.Goals as goal

pub returns-in-Err-Archive-clause-only_read : goal.returns-in-Err-Archive-clause-only_read
returns-in-Err-Archive-clause-only_read g c =
    let d = g.D.Disk in
    only_read_on d.tells_content d.tells_images d.content d.history d.faults c.args.disk.now c.read_disk_as.new.disk c.start_of_unread.new.disk c.read_disk_as.ensures.only_read c.start_of_unread.ensures.only_read
