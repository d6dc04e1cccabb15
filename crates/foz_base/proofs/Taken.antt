-- Files of a shelf that are taken, read or written, and put back.
use Rattle.std.proofs.Common.{◌≡◌, ◌⊎◌, inl, inr, ℕ, true, List, [], Option, Some, None, Result, Ok, Err, refl, sym, ap, ◌∙◌, subst}
use Rattle.std.specs.Prelude.{IsOk}
use Rattle.std.specs.Str.{bytes_eq}
use Rattle.std.proofs.lemmas.Slice.Eq.{bytes_eq-Decides}
use Rattle.disk_model.specs.Disk.{History, latest, NothingPending, IsMade}
use Rattle.disk_model.specs.Place.{Place, missing, stored, with_place}
use Rattle.disk_model.specs.declared.shelf.Mode.TheVariants.{Read, Write}
use Rattle.foz_archive.specs.OnlyRead.{OnlyReads}
use Rattle.record_lines.specs.declared.capture.CaptureStop.{CaptureStop}
use Rattle.record_lines.specs.declared.recording.Report.{Report}
use Rattle.foz_base.specs.declared.stop.Stop.{Stop}
use Rattle.foz_base.specs.FileWork.{bytes_of, IsStart, FileLeaves}
use Rattle.foz_base.specs.Outside.{holds, file_of, history_of, files_of, IsFileOnlyRead, IsSettledFile}
use Rattle.foz_base.specs.Status.{report_or_stop}

-- what was put back stands under its name
pub stored_back : {H : Type 0} (mid now : List ℕ → Place H) (name : List ℕ) (disk : H) → now ≡ with_place mid name (stored disk) → now name ≡ stored disk
stored_back mid now name disk back =
    let same : bytes_eq name name ≡ true = (bytes_eq-Decides name name).1 refl in
    ap (λ (p : List ℕ → Place _). p name) back ∙ rw same

-- ---- reading

pub found_to_read : (A B C : Type 0) → A ⊎ ((Read ≡ Write) × B × C) → A
found_to_read A B C (inl here) = here
found_to_read A B C (inr made) = absurd (let e = made.0 in cc)

module _ {H : Type 0} (images : Type 0) (content : H → List ℕ) (history : H → History) (faults : H → ℕ) (before now : List ℕ → Place H) (m n : ℕ) (name : List ℕ) where
  pub only_read : (disk after : H) → before name ≡ stored disk → now name ≡ stored after → content after ≡ content disk → (images → OnlyReads (history disk) (history after))
      → IsFileOnlyRead images (files_of content history faults before m) (files_of content history faults now n) name
  only_read disk after here there alike reads = record {
    content = ap (file_of content) there ∙ ap holds alike ∙ sym (ap (file_of content) here);
    history = λ told. inr (history disk, history after, (ap (history_of history) here, ap (history_of history) there, reads told));
  }

-- ---- writing

module _ {H : Type 0} (content : H → List ℕ) (before : Place H) (disk : H) (found : (before ≡ stored disk) ⊎ ((before ≡ missing) × (content disk ≡ []))) where
  pub bytes_are : bytes_of (file_of content before) ≡ content disk
  bytes_are = elim found [
    | inl here ↦ ap (λ (p : Place H). bytes_of (file_of content p)) here
    | inr made ↦ ap (λ (p : Place H). bytes_of (file_of content p)) made.0 ∙ sym made.1
  ]

module _ {H : Type 0} (tells_content tells_images : Type 0) (content : H → List ℕ) (history : H → History) (faults : H → ℕ) (before now : Place H) (disk after : H)
    (given : (before ≡ stored disk) ⊎ ((before ≡ missing) × IsMade tells_content tells_images (content disk) (history disk) (faults disk))) where
  module _ (is : now ≡ stored after) where
    pub file_leaves : (leaves : List ℕ → History → History → Type 0) → tells_content → tells_images → content disk ≡ (latest (history disk)).now
        → (NothingPending (latest (history disk)) → leaves (content disk) (history disk) (history after))
        → FileLeaves leaves (file_of content before) (history_of history before) (history_of history now)
    file_leaves leaves told images is_now left settled = elim given [
      | inl here ↦
          let old : history_of history before ≡ Some (history disk) = ap (history_of history) here in
          inr (record {
            start = history disk;
            began = subst (λ (o : Option History). IsStart o (history disk)) (sym old) refl;
            history = history after;
            is_there = ap (history_of history) is;
            left = subst (λ (l : List ℕ). leaves l (history disk) (history after)) (sym (bytes_are content before disk (inl here))) (left (subst IsSettledFile old settled));
          })
      | inr made ↦
          let old : history_of history before ≡ None = ap (history_of history) made.0 in
          inr (record {
            start = history disk;
            began = subst (λ (o : Option History). IsStart o (history disk)) (sym old) (made.1.settled images, sym is_now ∙ made.1.empty told);
            history = history after;
            is_there = ap (history_of history) is;
            left = subst (λ (l : List ℕ). leaves l (history disk) (history after)) (sym (bytes_are content before disk (inr (made.0, made.1.empty told)))) (left (made.1.settled images));
          })
    ]

-- ---- a capture

pub was_captured : {Cause : Type 0} (outcome : Result (Report Cause) CaptureStop) (result : Result (Report Cause) Stop) → result ≡ report_or_stop outcome → IsOk result → IsOk outcome
was_captured (Ok report) result is ok = refl
was_captured (Err stopped) result is ok = subst IsOk is ok
