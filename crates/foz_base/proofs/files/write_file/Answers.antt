use Rattle.foz_base.proofs.Taken.{file_leaves, stored_back}
use Rattle.foz_base.proofs.files.write_file.Goals as goal

pub returns-clause-leaves : goal.returns-clause-leaves
returns-clause-leaves g c = λ shelf images.
    let given = c.in_ok-disk.ensures.taken shelf in
    let back = stored_back _ _ _ _ (c.put_back.ensures.back shelf) in
    file_leaves g.F.Held.Disk.tells_content g.F.Held.Disk.tells_images g.F.Held.Disk.content g.F.Held.Disk.history g.F.Held.Disk.faults _ _ _ _ given back (g.W.Work.leaves c.args.work)
    (c.laws_of_disks.ensures.both images) images (c.laws_of_disks.ensures.is_now images c.in_ok-disk.disk) (c.work_on-worked.ensures.leaves images)
