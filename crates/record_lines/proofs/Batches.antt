-- What is recorded in batches, and what a crash leaves of it.
use Rattle.std.proofs.Common.{◌≡◌, ◌⊎◌, inl, inr, ℕ, ◌+◌, ◌*◌, ◌<◌, ◌≤◌, List, [], ◌∷◌, ◌++◌, length, take, refl, sym, ap, ◌∙◌, subst, length-append, append-nil, arith}
use Rattle.std.proofs.lemmas.Bool.{cases_lt}
use Rattle.std.proofs.lemmas.List.{take_all}
use Rattle.disk_model.specs.Disk.{DiskState, History, latest, IsImage, GoesOn, LeavesOnly}
use Rattle.foz_entry.specs.declared.cut.Entry.{Entry}
use Rattle.foz_archive.specs.Reading.{Holds}
use Rattle.record_words.specs.Recorded.{Line, skipped, refused, read}
use Rattle.record_words.specs.Added.{Element, added_to}
use Rattle.record_words.specs.Alone.{after_record, entries_alone}
use Rattle.record_words.proofs.Places.{take_front, take_within}
use Rattle.record_lines.specs.Batches.{AreDurable, records_of, after_batches, LeavesBatches}

-- ---- records

module _ {Cause : Type 0} where
  records_then : (xs ys : List (Line Cause)) → records_of (xs ++ ys) ≡ records_of xs ++ records_of ys
  records_then [] ys = refl
  records_then (skipped ∷ xs) ys = records_then xs ys
  records_then (refused cause ∷ xs) ys = records_then xs ys
  records_then (read key payload ∷ xs) ys = ap (λ (l : List Element). (key, payload) ∷ l) (records_then xs ys)

  pub records_counted : (xs ys : List (Line Cause)) → length (records_of (xs ++ ys)) ≡ length (records_of xs) + length (records_of ys)
  records_counted xs ys = ap length (records_then xs ys) ∙ length-append (records_of xs) (records_of ys)

  pub alone_added : (before : List Entry) (lines : List (Line Cause)) → entries_alone before lines ≡ added_to before (records_of lines)
  alone_added before [] = refl
  alone_added before (skipped ∷ lines) = alone_added before lines
  alone_added before (refused cause ∷ lines) = alone_added before lines
  alone_added before (read key payload ∷ lines) = alone_added (after_record before key payload) lines

  -- lines that end with a batch, which may be short
  pub whole_batches : (before : List Entry) (lines : List (Line Cause)) (n : ℕ) → length (records_of lines) ≤ n * 64 → entries_alone before lines ≡ after_batches before lines n
  whole_batches before lines n le = alone_added before lines ∙ ap (added_to before) (sym (take_all (n * 64) (records_of lines) le))

  -- a prefix of the lines, and the lines after it
  module _ (before : List Entry) (lines done rest : List (Line Cause)) (prefix : lines ≡ done ++ rest) (n : ℕ) where
    parts : records_of lines ≡ records_of done ++ records_of rest
    parts = ap records_of prefix ∙ records_then done rest

    -- batches that the prefix has are batches of all lines
    pub batches_within : n * 64 ≤ length (records_of done) → after_batches before done n ≡ after_batches before lines n
    batches_within le = ap (added_to before) (sym (ap (take (n * 64)) parts ∙ take_within (records_of done) (records_of rest) (n * 64) le))

    -- and so is all of the prefix where it ends with a batch, or is all there is
    pub batches_done : (length (records_of done) ≡ n * 64) ⊎ ((rest ≡ []) × (length (records_of done) ≤ n * 64)) → entries_alone before done ≡ after_batches before lines n
    batches_done (inl is) =
        alone_added before done
        ∙ ap (added_to before) (sym (ap (take (n * 64)) parts ∙ (ap (λ (m : ℕ). take m (records_of done ++ records_of rest)) (sym is) ∙ take_front (records_of done) (records_of rest))))
    batches_done (inr last) =
        let none : records_of rest ≡ [] = ap records_of (last.0) in
        let same : records_of lines ≡ records_of done ++ [] = parts ∙ ap (λ (l : List Element). records_of done ++ l) none in
        let few : length (records_of done ++ []) ≤ n * 64 = (let l = length-append (records_of done) [] in let most = last.1 in omega arith) in
        alone_added before done ∙ ap (added_to before) (sym (ap (take (n * 64)) same ∙ (take_all (n * 64) (records_of done ++ []) few ∙ append-nil (records_of done))))

-- ---- histories

-- what a crash leaves now, after calls that leave it only so
pub durable_after : (old new : History) (entries : List Entry) → LeavesOnly old new (λ bytes. Holds bytes entries) → AreDurable new entries
durable_after old new entries run = λ bytes image. run.each bytes (new.moment, run.goes_on.later, ((let g : new.moment ≤ new.moment = omega arith in g), image))

module _ {Cause : Type 0} (before : List Entry) (lines : List (Line Cause)) where
  -- nothing was recorded yet
  pub no_batch : (old new : History) → LeavesOnly old new (λ bytes. Holds bytes before) → LeavesBatches before lines old new
  no_batch old new run = record {
    goes_on = run.goes_on;
    each = λ moment from until. (0, λ bytes image. inl (run.each bytes (moment, from, (until, image))));
  }

  -- one batch was written
  pub one_batch : (old new : History) (n : ℕ) → LeavesOnly old new (λ bytes. Holds bytes (after_batches before lines n) ⊎ Holds bytes (after_batches before lines (n + 1))) → LeavesBatches before lines old new
  one_batch old new n run = record { goes_on = run.goes_on; each = λ moment from until. (n, λ bytes image. run.each bytes (moment, from, (until, image))) }

  pub then_batches : (old mid new : History) → LeavesBatches before lines old mid → LeavesBatches before lines mid new → LeavesBatches before lines old new
  then_batches old mid new first second = record {
    goes_on = record {
      later = omega (arith, first.goes_on.later, second.goes_on.later);
      kept = λ moment le. second.goes_on.kept moment (omega (arith, first.goes_on.later)) ∙ first.goes_on.kept moment le;
    };
    each = λ moment from until. elim (cases_lt moment (mid.moment + 1)) [
      | inl early ↦
          let known = first.each moment from (omega arith) in
          (known.0, λ bytes image. known.1 bytes (subst (λ (s : DiskState). IsImage s bytes) (second.goes_on.kept moment (omega arith)) image))
      | inr late ↦ second.each moment (omega arith) until
    ];
  }

  -- a call that leaves the disk alone
  pub same_history : (old mid new : History) → new ≡ mid → LeavesBatches before lines old mid → LeavesBatches before lines old new
  same_history old mid new is first = subst (LeavesBatches before lines old) (sym is) first

  pub rests : (old : History) → AreDurable old before → LeavesBatches before lines old old
  rests old durable = no_batch old old (record {
    goes_on = record { later = omega arith; kept = λ moment le. refl };
    each = λ bytes (moment, from, (until, image)).
        let same : moment ≡ old.moment = omega arith in
        durable bytes (subst (λ (m : ℕ). IsImage (old.at m) bytes) same image);
  })
