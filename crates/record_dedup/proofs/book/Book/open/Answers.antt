use Rattle.std.proofs.Common.{◌⊎◌, ℕ, List, length, inl, Err, sym, ap, subst, ◌∙◌, arith}
use Rattle.std.proofs.lemmas.Result.{err_from_is_err_and}
use Rattle.indexmap.specs.IndexMap.{get}
use Rattle.disk_model.specs.Disk.{LeavesOnly, IsImage, latest}
use Rattle.disk_model.proofs.Moments.{leaves_only-weaken}
use Rattle.foz_words.specs.contracts.key.KeyPartialEq.TheImpl as KeyPartialEq
use Rattle.foz_entry.specs.declared.cut.Entry.{Entry}
use Rattle.foz_archive.specs.Reading.{writing, Holds, SomeFileHolds}
use Rattle.foz_archive.specs.Opened.{HoldAlike}
use Rattle.record_words.specs.Index.{IsIndexOf}
use Rattle.record_dedup.specs.Kept.{IsKept, booked, disk_of}
use Rattle.record_dedup.proofs.Kept.{opened_known, opening_runs, opening_only_reads}
use Rattle.record_dedup.proofs.book.Book.open.Goals as goal

pub index_of-requires : goal.index_of-requires
index_of-requires g c =
    let some = c.entries.ensures.some_file in
    let few = c.entries_are_bounded.ensures.few writing some.file _ _ some.accepted in
    let same = ap length c.entries.ensures.all in
    record { few = omega arith }

module _ (g : _) (c : goal.After-flushed-opened g) where
  known : IsKept g.D.Disk.tells_content g.D.Disk.tells_images g.D.Disk.content g.D.Disk.history g.D.Disk.faults (booked c.in_ok-archive.archive c.of-began.result.value c.flushed-opened.result)
  known =
      let d = g.D.Disk in
      let law = g.met.D.Disk in
      let read = c.in_ok-opening.ensures in
      let settled = c.in_ok-archive.ensures in
      subst (λ (z : _). IsKept d.tells_content d.tells_images d.content d.history d.faults (booked c.in_ok-archive.archive z c.flushed-opened.result)) (sym c.of-began.ensures)
      (opened_known d.tells_content d.tells_images d.content d.history d.faults law.tells_both law.content_is_now c.args.disk c.in_ok-opening.opening.disk c.in_ok-opening.opening.entries read.content read.any_moment read.held
      c.entries_are_bounded.ensures.end c.readings_are_unique.ensures.one_content c.in_ok-archive.archive c.in_ok-opening.opening.end c.flushed-opened.result settled.mends settled.opened c.flushed-opened.ensures.count settled.settled
      (omega (arith, read.later, settled.cause.later)))

pub invariant_of-result : goal.invariant_of-result
invariant_of-result g c =
    let opened = c.in_ok-archive.ensures.opened in (
      known g c,
      subst (λ (z : List Entry). SomeFileHolds z c.in_ok-archive.archive.end) (sym opened.entries) (subst (λ (n : ℕ). SomeFileHolds c.in_ok-opening.opening.entries n) (sym opened.end) c.in_ok-opening.ensures.some_file),
      subst (IsIndexOf (get KeyPartialEq.ghosts.eq c.in-Ok.index)) (c.entries.ensures.all ∙ sym opened.entries) c.in-Ok.ensures,
    )

pub returns-clause-kept : goal.returns-clause-kept
returns-clause-kept g c = known g c

pub returns-in_err-opening-clause-any_moment : goal.returns-in_err-opening-clause-any_moment
returns-in_err-opening-clause-any_moment g c told =
    let d = g.D.Disk in
    let refused = err_from_is_err_and c.from_residual.result c.from_residual.ensures.1 in
    let Image = IsImage (latest (d.history c.args.disk)) in
    subst (λ (r : _). LeavesOnly (d.history c.args.disk) (d.history (disk_of r)) (λ bytes. Image bytes ⊎ HoldAlike (d.content c.args.disk) bytes)) (sym (refused.1 ∙ ap Err refused.2))
    (leaves_only-weaken _ _ Image (λ bytes. Image bytes ⊎ HoldAlike (d.content c.args.disk) bytes) (λ bytes image. inl image) (c.in_err-opening.ensures.any_moment told))

pub returns-in-Err-clause-any_moment : goal.returns-in-Err-clause-any_moment
returns-in-Err-clause-any_moment g c told =
    let d = g.D.Disk in
    let Image = IsImage (latest (d.history c.args.disk)) in
    subst (λ (z : _). LeavesOnly (d.history c.args.disk) (d.history z) (λ bytes. Image bytes ⊎ HoldAlike (d.content c.args.disk) bytes)) (sym c.into_disk.ensures)
    (leaves_only-weaken _ _ Image (λ bytes. Image bytes ⊎ HoldAlike (d.content c.args.disk) bytes) (λ bytes image. inl image) (c.in_ok-opening.ensures.any_moment told))

pub returns-in_err-archive-clause-any_moment : goal.returns-in_err-archive-clause-any_moment
returns-in_err-archive-clause-any_moment g c told =
    let d = g.D.Disk in
    let law = g.met.D.Disk in
    let read = c.in_ok-opening.ensures in
    let refused = err_from_is_err_and c.from_residual-in_err-archive.result c.from_residual-in_err-archive.ensures.1 in
    subst (λ (r : _). LeavesOnly (d.history c.args.disk) (d.history (disk_of r)) (λ bytes. IsImage (latest (d.history c.args.disk)) bytes ⊎ HoldAlike (d.content c.args.disk) bytes)) (sym (refused.1 ∙ ap Err refused.2))
    (opening_runs d.tells_content d.tells_images d.content d.history d.faults law.tells_both law.content_is_now c.args.disk c.in_ok-opening.opening.disk c.in_ok-opening.opening.entries read.content read.any_moment read.held
    _ c.in_err-archive.ensures.mends told)

pub returns-clause-any_moment : goal.returns-clause-any_moment
returns-clause-any_moment g c told =
    let d = g.D.Disk in
    let law = g.met.D.Disk in
    let read = c.in_ok-opening.ensures in
    opening_runs d.tells_content d.tells_images d.content d.history d.faults law.tells_both law.content_is_now c.args.disk c.in_ok-opening.opening.disk c.in_ok-opening.opening.entries read.content read.any_moment read.held
    _ c.in_ok-archive.ensures.mends told

pub returns-in_err-archive-clause-only_read : goal.returns-in_err-archive-clause-only_read
returns-in_err-archive-clause-only_read g c told closed =
    let d = g.D.Disk in
    let law = g.met.D.Disk in
    let read = c.in_ok-opening.ensures in
    let refused = err_from_is_err_and c.from_residual-in_err-archive.result c.from_residual-in_err-archive.ensures.1 in
    subst (λ (r : _). LeavesOnly (d.history c.args.disk) (d.history (disk_of r)) (IsImage (latest (d.history c.args.disk)))) (sym (refused.1 ∙ ap Err refused.2))
    (opening_only_reads d.tells_content d.tells_images d.content d.history d.faults law.tells_both law.content_is_now c.args.disk c.in_ok-opening.opening.disk c.in_ok-opening.opening.entries read.content read.any_moment read.held
    _ c.in_err-archive.ensures.mends (law.content_is_image c.args.disk) told closed)

pub returns-clause-only_read : goal.returns-clause-only_read
returns-clause-only_read g c told closed =
    let d = g.D.Disk in
    let law = g.met.D.Disk in
    let read = c.in_ok-opening.ensures in
    opening_only_reads d.tells_content d.tells_images d.content d.history d.faults law.tells_both law.content_is_now c.args.disk c.in_ok-opening.opening.disk c.in_ok-opening.opening.entries read.content read.any_moment read.held
    _ c.in_ok-archive.ensures.mends (law.content_is_image c.args.disk) told closed

pub returns-clause-held : goal.returns-clause-held
returns-clause-held g c told = subst (Holds (g.D.Disk.content c.args.disk)) (sym c.in_ok-archive.ensures.opened.entries) (c.in_ok-opening.ensures.held told)
