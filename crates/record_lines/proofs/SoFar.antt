-- A thread goes over its lines.
use Rattle.std.proofs.Common.{◌≡◌, ◌⊎◌, inl, inr, ⊎_elim, ℕ, ◌+◌, ◌<◌, ◌≤◌, List, [], ◌∷◌, ◌++◌, length, refl, sym, ap, ◌∙◌, subst, append_assoc, append-nil, length-append, take, ◌*◌, arith}
use Rattle.std.proofs.lemmas.Bool.{cases_lt}
use Rattle.std.proofs.lemmas.List.{take_all}
use Rattle.disk_model.specs.Disk.{History, LeavesOnly}
use Rattle.foz_entry.specs.declared.cut.Entry.{Entry}
use Rattle.foz_archive.specs.Reading.{Holds}
use Rattle.record_words.specs.declared.answered.Answered.{Answered}
use Rattle.record_words.specs.Recorded.{Line, AreAnswers, skipped, refused, read}
use Rattle.record_words.specs.Answered.{answered_from}
use Rattle.record_words.specs.Alone.{entries_alone, answers_alone}
use Rattle.record_words.proofs.OneByOne.{alone_are, entries_then, answered_then, grown_length}
use Rattle.record_words.proofs.Places.{take_within}
use Rattle.record_lines.specs.Recording.{AreRecorded, IsPrefixRecorded}
use Rattle.record_lines.specs.Batches.{records_of, after_batches, LeavesBatches}
use Rattle.record_lines.proofs.Batches.{records_counted, batches_within, batches_done, whole_batches, one_batch, then_batches}

-- a line adds one entry at most
pub one_at_most : {Cause : Type 0} (now : List Entry) (line : Line Cause) → length (entries_alone now (line ∷ [])) ≤ length now + 1
one_at_most now skipped = omega arith
one_at_most now (refused cause) = omega arith
one_at_most now (read key payload) = (grown_length now key payload).1

pub one_waits : {Cause : Type 0} (now later : List Entry) (line : Line Cause) (flushed same unwritten n : ℕ) → (later ≡ now) ⊎ (later ≡ entries_alone now (line ∷ [])) → same ≡ flushed → length now ≤ flushed + unwritten → unwritten < n → length later ≤ same + n
one_waits now later line flushed same unwritten n (inl is) stays wait few = let l = ap length is in omega arith
one_waits now later line flushed same unwritten n (inr is) stays wait few = let l = ap length is in let one = one_at_most now line in omega arith

-- So many of the lines were recorded, and the others are left. Of their records so many batches are written, and the rest
-- waits.
pub record IsSoFar {Cause : Type 0} (before now : List Entry) (lines rest : List (Line Cause)) (number : ℕ) (answered : List (Answered Cause)) (flushed unwritten : ℕ) : Type 0 where
  pub done : List (Line Cause)
  pub prefix : lines ≡ done ++ rest
  pub counted : length done ≡ number
  pub entries : now ≡ entries_alone before done
  pub answers : answered ≡ answered_from 1 done (answers_alone before done)
  pub batches : ℕ
  pub records : length (records_of done) ≡ batches * 64 + unwritten
  pub within : flushed ≤ length now
  pub written : take flushed now ≡ after_batches before done batches

module _ {Cause : Type 0} (before : List Entry) (lines : List (Line Cause)) where
  pub start : (flushed : ℕ) → flushed ≡ length before → (answered : List (Answered Cause)) → answered ≡ [] → IsSoFar before before lines lines 0 answered flushed 0
  start flushed all answered none = record {
    done = [];
    prefix = refl;
    counted = refl;
    entries = refl;
    answers = none;
    batches = 0;
    records = refl;
    within = omega arith;
    written = take_all flushed before (omega arith);
  }

  module _ (now : List Entry) (rest : List (Line Cause)) (number : ℕ) (answered : List (Answered Cause)) (flushed unwritten : ℕ) (so_far : IsSoFar before now lines rest number answered flushed unwritten) where
    pub prefix_recorded : IsPrefixRecorded before lines now
    prefix_recorded = record { done = so_far.done; rest = rest; prefix = so_far.prefix; entries = so_far.entries }

    -- no line is left uncounted
    pub counts_up : (n : ℕ) → length lines ≤ n → number + length rest ≤ n
    counts_up n le = omega (arith, ap length so_far.prefix, length-append so_far.done rest, so_far.counted)

    pub all_recorded : rest ≡ [] → AreRecorded before lines 1 now answered
    all_recorded none =
        let whole : lines ≡ so_far.done = so_far.prefix ∙ (ap (λ (l : List (Line Cause)). so_far.done ++ l) none ∙ append-nil so_far.done) in
        record {
          answers = answers_alone before lines;
          are = subst (λ (es : List Entry). AreAnswers before lines 1 es (answers_alone before lines)) (ap (entries_alone before) whole ∙ sym (so_far.entries)) (alone_are before lines);
          told = so_far.answers ∙ ap (λ (l : List (Line Cause)). answered_from 1 l (answers_alone before l)) (sym whole);
        }

    -- a batch is whole, or no line is left: a flush writes it
    pub flush_leaves : (old new : History) → (unwritten ≡ 64) ⊎ ((rest ≡ []) × (unwritten ≤ 64)) → LeavesOnly old new (λ bytes. Holds bytes (take flushed now) ⊎ Holds bytes now) → LeavesBatches before lines old new
    flush_leaves old new due run = one_batch before lines old new so_far.batches (record {
      goes_on = run.goes_on;
      each = λ bytes left. elim (run.each bytes left) [
        | inl part ↦ inl (subst (Holds bytes) (so_far.written ∙ batches_within before lines so_far.done rest so_far.prefix so_far.batches (let r = so_far.records in omega arith)) part)
        | inr all ↦ inr (subst (Holds bytes) (so_far.entries ∙ batches_done before lines so_far.done rest so_far.prefix (so_far.batches + 1) (ends due)) all)
      ];
    })
      where
        ends : (unwritten ≡ 64) ⊎ ((rest ≡ []) × (unwritten ≤ 64)) → (length (records_of so_far.done) ≡ (so_far.batches + 1) * 64) ⊎ ((rest ≡ []) × (length (records_of so_far.done) ≤ (so_far.batches + 1) * 64))
        ends (inl whole) = inl (let r = so_far.records in omega arith)
        ends (inr last) = inr (last.0, (let r = so_far.records in let few = last.1 in omega arith))

    -- a batch is written where it is whole
    pub batch_leaves : (old mid new : History) → unwritten ≤ 64 → LeavesBatches before lines old mid → (unwritten < 64 → new ≡ mid)
        → (64 ≤ unwritten → LeavesOnly mid new (λ bytes. Holds bytes (take flushed now) ⊎ Holds bytes now)) → LeavesBatches before lines old new
    batch_leaves old mid new most first idle run = elim (cases_lt unwritten 64) [
      | inl few ↦ subst (LeavesBatches before lines old) (sym (idle few)) first
      | inr whole ↦ then_batches before lines old mid new first (flush_leaves mid new (inl (omega arith)) (run whole))
    ]

    pub left_after : (left same : ℕ) → ((unwritten < 64) × (left ≡ unwritten) × (same ≡ flushed)) ⊎ ((unwritten ≡ 64) × (left ≡ 0) × (same ≡ length now)) → IsSoFar before now lines rest number answered same left
    left_after left same (inl (few, is, stays)) = record {
      done = so_far.done;
      prefix = so_far.prefix;
      counted = so_far.counted;
      entries = so_far.entries;
      answers = so_far.answers;
      batches = so_far.batches;
      records = omega (arith, so_far.records, is);
      within = omega (arith, so_far.within, stays);
      written = ap (λ (n : ℕ). take n now) stays ∙ so_far.written;
    }
    left_after left same (inr (whole, is, all)) = record {
      done = so_far.done;
      prefix = so_far.prefix;
      counted = so_far.counted;
      entries = so_far.entries;
      answers = so_far.answers;
      batches = so_far.batches + 1;
      records = omega (arith, so_far.records, is, whole);
      within = omega (arith, all);
      written = take_all same now (omega (arith, all)) ∙ (so_far.entries ∙ whole_batches before so_far.done (so_far.batches + 1) (let r = so_far.records in omega arith));
    }

    -- one line more
    module _ (line : Line Cause) (left : List (Line Cause)) (next : rest ≡ line ∷ left) where
      abbrev grown : List (Line Cause)
      grown = so_far.done ++ line ∷ []

      longer : lines ≡ grown ++ left
      longer = so_far.prefix ∙ (ap (λ (l : List (Line Cause)). so_far.done ++ l) next ∙ sym (append_assoc so_far.done (line ∷ []) left))

      grown_entries : (later : List Entry) → later ≡ entries_alone now (line ∷ []) → later ≡ entries_alone before grown
      grown_entries later is = is ∙ (ap (λ (es : List Entry). entries_alone es (line ∷ [])) (so_far.entries) ∙ sym (entries_then before so_far.done (line ∷ [])))

      -- it leaves what was written
      pub so_much_more : (later : List Entry) (count : ℕ) (told_too : List (Answered Cause)) (same records : ℕ) → count ≡ number + 1 → later ≡ entries_alone now (line ∷ [])
          → told_too ≡ answered ++ answered_from count (line ∷ []) (answers_alone now (line ∷ [])) → same ≡ flushed → records ≡ length (records_of (line ∷ []))
          → IsSoFar before later lines left count told_too same (unwritten + records)
      so_much_more later count told_too same records counts is tells stays waits =
          let are = alone_are now (line ∷ []) in
          let longer_now : later ≡ now ++ are.added = is ∙ are.grown in
          let l = ap length longer_now in
          let a = length-append now are.added in
          let low = so_far.within in
          record {
            done = grown;
            prefix = longer;
            counted = omega (arith, length-append so_far.done (line ∷ []), so_far.counted, counts);
            entries = grown_entries later is;
            answers =
                let at : count ≡ 1 + length so_far.done = omega (arith, so_far.counted, counts) in
                tells
                ∙ (ap (λ (l : List (Answered Cause)). l ++ answered_from count (line ∷ []) (answers_alone now (line ∷ []))) (so_far.answers)
                ∙ (ap (λ (m : ℕ). answered_from 1 so_far.done (answers_alone before so_far.done) ++ answered_from m (line ∷ []) (answers_alone now (line ∷ []))) at
                ∙ (ap (λ (es : List Entry). answered_from 1 so_far.done (answers_alone before so_far.done) ++ answered_from (1 + length so_far.done) (line ∷ []) (answers_alone es (line ∷ []))) (so_far.entries)
                ∙ sym (answered_then 1 before so_far.done (line ∷ [])))));
            batches = so_far.batches;
            records = omega (arith, records_counted so_far.done (line ∷ []), so_far.records, waits);
            within = omega (arith, stays, l, a, low);
            written =
                ap (λ (n : ℕ). take n later) stays
                ∙ (ap (take flushed) longer_now
                ∙ (take_within now are.added flushed low
                ∙ (so_far.written
                ∙ batches_within before grown so_far.done (line ∷ []) refl so_far.batches (let r = so_far.records in omega arith))));
          }

      -- wherever that line's record ended
      pub more_recorded : (later : List Entry) → (later ≡ now) ⊎ (later ≡ entries_alone now (line ∷ [])) → IsPrefixRecorded before lines later
      more_recorded later ends = ⊎_elim (λ (same : later ≡ now). subst (IsPrefixRecorded before lines) (sym same) prefix_recorded)
          (λ (is : later ≡ entries_alone now (line ∷ [])). record { done = grown; rest = left; prefix = longer; entries = grown_entries later is })
          ends
