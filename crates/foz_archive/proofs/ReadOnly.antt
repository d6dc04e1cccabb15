-- What calls that only read leave, and what a sync before them leaves.
use Rattle.std.proofs.Common.{◌≡◌, ℕ, List, sym, subst, ◌∙◌, arith}
use Rattle.std.specs.Prelude.{Result, Ok, Err, OnOk}
use Rattle.disk_model.specs.Disk.{DiskState, History, IsImage, latest, NothingPending, LeavesOnly, Rests, Syncs}
use Rattle.disk_model.proofs.Moments.{no_calls, then_runs, leaves_only-weaken}
use Rattle.disk_model.proofs.Calls.{then_rest, then_sync}
use Rattle.foz_archive.specs.OnlyRead.{OnlyReads, IsOnlyRead}

pub one_read : (old new : History) → Rests old new → OnlyReads old new
one_read old new rest =
    let P = IsImage (latest old) in
    record { run = then_rest old old new P (no_calls old P (λ bytes image. image)) rest; same = rest.same }

pub then_read : (old mid new : History) → OnlyReads old mid → Rests mid new → OnlyReads old new
then_read old mid new reads rest = record { run = then_rest old mid new (IsImage (latest old)) reads.run rest; same = rest.same ∙ reads.same }

reads_on : (old mid new : History) → OnlyReads old mid → OnlyReads mid new → OnlyReads old new
reads_on old mid new first second = record {
  run = then_runs old mid new (IsImage (latest old)) first.run
      (leaves_only-weaken mid new (IsImage (latest mid)) (IsImage (latest old)) (λ bytes image. subst (λ (s : DiskState). IsImage s bytes) first.same image) second.run);
  same = second.same ∙ first.same;
}

-- one reading of a disk after another
pub only_read_on : {D : Type 0} (tells_content tells_images : Type 0) (content : D → List ℕ) (history : D → History) (faults : D → ℕ) (old mid new : D)
    → IsOnlyRead tells_content tells_images content history faults old mid → IsOnlyRead tells_content tells_images content history faults mid new → IsOnlyRead tells_content tells_images content history faults old new
only_read_on tells_content tells_images content history faults old mid new first second = record {
  same_content = λ told. second.same_content told ∙ first.same_content told;
  images = λ told. reads_on (history old) (history mid) (history new) (first.images told) (second.images told);
  later = let before = first.later in let after = second.later in omega arith;
}

pub where_ok : {T E : Type 0} (result : Result T E) (P : Type 0) → P → OnOk result P
where_ok (Ok value) P here = here
where_ok (Err error) P here = tt

pub reads_settle : (old new : History) → OnlyReads old new → NothingPending (latest old) → NothingPending (latest new)
reads_settle old new reads durable = subst NothingPending (sym reads.same) durable

module _ {D : Type 0} (tells_images : Type 0) (content : D → List ℕ) (history : D → History) (is_now : (disk : D) → tells_images → content disk ≡ (latest (history disk)).now)
    (is_image : (disk : D) → tells_images → IsImage (latest (history disk)) (content disk)) (told : tells_images) where
  -- a sync leaves what a crash may leave before it
  pub sync_leaves : {T E : Type 0} (old new : D) (result : Result T E) → Syncs (history old) (history new) result → LeavesOnly (history old) (history new) (IsImage (latest (history old)))
  sync_leaves old new result sync =
      let P : List ℕ → Type 0 = IsImage (latest (history old)) in
      then_sync (history old) (history old) (history new) result P (no_calls (history old) P (λ bytes image. image)) (subst P (is_now old told) (is_image old told)) sync

  -- and so do the readings after it
  pub sync_reads : (old mid new : D) → LeavesOnly (history old) (history mid) (IsImage (latest (history old))) → NothingPending (latest (history mid)) → content mid ≡ content old
      → OnlyReads (history mid) (history new) → LeavesOnly (history old) (history new) (IsImage (latest (history old)))
  sync_reads old mid new run durable same reads =
      let P : List ℕ → Type 0 = IsImage (latest (history old)) in
      then_runs (history old) (history mid) (history new) P run
      (leaves_only-weaken (history mid) (history new) (IsImage (latest (history mid))) P
      (λ bytes image. subst P (sym (durable bytes image ∙ (sym (is_now mid told) ∙ same))) (is_image old told)) reads.run)
