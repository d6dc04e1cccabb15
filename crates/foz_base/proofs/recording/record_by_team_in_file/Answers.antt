use Rattle.std.proofs.Common.{Some, sym, ap, ◌∙◌, subst}
use Rattle.disk_model.specs.Disk.{History}
use Rattle.disk_model.specs.Place.{Place}
use Rattle.record_lines.specs.Capture.{CaptureLeaves}
use Rattle.foz_base.specs.Outside.{history_of, IsSettledFile}
use Rattle.foz_base.proofs.Taken.{file_leaves, stored_back, was_captured}
use Rattle.foz_base.proofs.recording.record_by_team_in_file.Goals as goal

pub returns-clause-leaves : goal.returns-clause-leaves
returns-clause-leaves g c = λ shelf images.
    let given = c.in_ok-disk.ensures.taken shelf in
    let back = stored_back _ _ _ _ (c.put_back.ensures.back shelf) in
    file_leaves g.F.Held.Disk.tells_content g.F.Held.Disk.tells_images g.F.Held.Disk.content g.F.Held.Disk.history g.F.Held.Disk.faults _ _ _ _ given back
    (λ content old new. CaptureLeaves content old new (g.L.Lines.rest c.args.lines) c.args.threads)
    (c.laws_of_disks.ensures.both images) images (c.laws_of_disks.ensures.is_now images c.in_ok-disk.disk) (c.record_capture_by_team-captured.ensures.leaves images)

pub returns-clause-durable : goal.returns-clause-durable
returns-clause-durable g c = λ shelf images ok.
    let back = stored_back _ _ _ _ (c.put_back.ensures.back shelf) in
    let settled = c.record_capture_by_team-captured.ensures.durable images (was_captured _ _ c.report_or_stop.ensures ok) in
    subst IsSettledFile (sym (ap (history_of g.F.Held.Disk.history) back)) settled
