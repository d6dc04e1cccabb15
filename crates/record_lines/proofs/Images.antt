-- What the record of a capture leaves.
use Rattle.std.proofs.Common.{◌≡◌, ◌⊎◌, inl, inr, ⊎_elim, ℕ, ◌≤◌, List, sym, ◌∙◌, subst, arith}
use Rattle.disk_model.specs.Disk.{History, latest, IsImage, NothingPending, GoesOn, LeavesOnly}
use Rattle.disk_model.specs.Faults.{Rose}
use Rattle.foz_entry.specs.declared.cut.Entry.{Entry}
use Rattle.foz_archive.specs.Reading.{Holds}
use Rattle.foz_archive.specs.Opened.{HoldAlike}
use Rattle.record_words.specs.Recorded.{Line}
use Rattle.record_lines.specs.Batches.{AreDurable, LeavesBatches}
use Rattle.record_lines.specs.Added.{AreAdded}
use Rattle.record_lines.specs.Capture.{CaptureLeaves}
use Rattle.record_words.specs.Alone.{entries_alone}
use Rattle.record_lines.proofs.Added.{batches_add}
use Rattle.record_lines.proofs.Batches.{durable_after, no_batch, then_batches}

pub rose_since : (before mid after : ℕ) → before ≤ mid → Rose mid after → Rose before after
rose_since before mid after le rose = omega arith

-- of a content with nothing pending on it, which holds one list of entries
module _ {Cause : Type 0} (lines : List (Line Cause)) (one_content : (file : List ℕ) (first second : List Entry) → Holds file first → Holds file second → first ≡ second)
    (added : (before : List Entry) → AreAdded before lines (entries_alone before lines)) (old : History) (content : List ℕ) (durable : NothingPending (latest old)) (is_now : content ≡ (latest old).now) where
  abbrev Opens : History → Type 0
  Opens new = LeavesOnly old new (λ bytes. IsImage (latest old) bytes ⊎ HoldAlike content bytes)

  -- an opening leaves the entries that the content holds
  opening : (new : History) → Opens new → (entries : List Entry) → Holds content entries → LeavesOnly old new (λ bytes. Holds bytes entries)
  opening new run entries held = record {
    goes_on = run.goes_on;
    each = λ bytes left. ⊎_elim
        (λ (image : IsImage (latest old) bytes). subst (λ (l : List ℕ). Holds l entries) (is_now ∙ sym (durable bytes image)) held)
        (λ (alike : HoldAlike content bytes). subst (Holds bytes) (one_content content alike.entries entries alike.before held) alike.after)
        (run.each bytes left);
  }

  -- what one thread leaves is known by its batches
  by_batches : (new : History) → GoesOn old new → ((entries : List Entry) → Holds content entries → LeavesBatches entries lines old new) → CaptureLeaves content old new lines 1
  by_batches new goes_on batches = record {
    goes_on = goes_on;
    added = λ entries held. batches_add entries lines (added entries) old new (batches entries held);
    batches = λ one entries held. batches entries held;
  }

  -- one that was refused
  pub opening_leaves : (new : History) → Opens new → CaptureLeaves content old new lines 1
  opening_leaves new run = by_batches new run.goes_on (λ entries held. no_batch entries lines old new (opening new run entries held))

  -- one after which lines were recorded
  pub book_leaves : (mid new : History) → Opens mid → (first : List Entry) → Holds content first → (AreDurable mid first → LeavesBatches first lines mid new) → CaptureLeaves content old new lines 1
  book_leaves mid new run first holds recorded =
      let opened = opening mid run first holds in
      let whole = then_batches first lines old mid new (no_batch first lines old mid opened) (recorded (durable_after old mid first opened)) in
      by_batches new whole.goes_on (λ entries held. subst (λ (es : List Entry). LeavesBatches es lines old new) (one_content content first entries holds held) whole)
