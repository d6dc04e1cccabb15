-- What lines that are recorded add.
use Rattle.std.proofs.Common.{◌≡◌, ◌⊎◌, ⊎_elim, ℕ, zero, suc, ◌+◌, ◌*◌, ◌<◌, ◌≤◌, List, [], ◌∷◌, ◌++◌, length, take, refl, sym, ap, ◌∙◌, subst, length-append, append-nil, append_assoc, arith}
use Rattle.std.specs.List.{AllZip}
use Rattle.disk_model.specs.Disk.{History, IsImage, GoesOn, MightHaveLeft}
use Rattle.foz_words.specs.declared.key.Key.{Key}
use Rattle.foz_entry.specs.declared.cut.Entry.{Entry}
use Rattle.foz_entry.specs.Entries.{end_of, entry_of}
use Rattle.foz_archive.specs.Reading.{Holds}
use Rattle.record_words.specs.declared.note.RecordReply.{RecordReply}
use Rattle.record_words.specs.declared.note.RecordReply.TheVariants.{New}
use Rattle.record_words.specs.Story.{At, AreApart}
use Rattle.record_words.specs.Recorder.{reply_of}
use Rattle.record_words.specs.Recorded.{Line, Answer, skipped, refused, read, passed, declined, replied, AreAnswers, IsAnswered}
use Rattle.record_words.specs.Added.{Element, added_to}
use Rattle.record_words.specs.Alone.{grown_by, after_record, entries_alone, answers_alone}
use Rattle.record_lines.specs.Batches.{records_of, after_batches, LeavesBatches}
use Rattle.record_lines.specs.Added.{IsOfLine, AreAdded, LeavesAdded}
use Rattle.record_lines.proofs.Batches.{alone_added}

-- ---- lists

module _ {X : Type 0} where
  pub at_below : (xs : List X) (i : ℕ) (x : X) → At xs i x → i < length xs
  at_below [] i x e = absurd cc
  at_below (y ∷ ys) zero x e = omega arith
  at_below (y ∷ ys) (suc i) x e = let h = at_below ys i x e in omega arith

  pub at_one : (xs : List X) (i : ℕ) (x y : X) → At xs i x → At xs i y → x ≡ y
  at_one xs i x y p q = cc

  take_front : (xs rest : List X) → take (length xs) (xs ++ rest) ≡ xs
  take_front [] rest = refl
  take_front (x ∷ xs) rest = ap (λ (z : List X). x ∷ z) (take_front xs rest)

  take_rest : (xs : List X) (i : ℕ) → (rest : List X) × (xs ≡ take i xs ++ rest)
  take_rest [] zero = ([], refl)
  take_rest [] (suc i) = ([], refl)
  take_rest (x ∷ xs) zero = (x ∷ xs, refl)
  take_rest (x ∷ xs) (suc i) = let r = take_rest xs i in (r.0, ap (λ (z : List X). x ∷ z) r.1)

pub zip_back : {A B : Type 0} (R : A → B → Type 0) (xs : List A) (ys : List B) (i : ℕ) (y : B) → AllZip R xs ys → At ys i y → (x : A) × (At xs i x × R x y)
zip_back R xs [] i y all e = absurd cc
zip_back R [] (b ∷ bs) i y all e = absurd all
zip_back {A} {B} R (a ∷ rest) (b ∷ bs) zero y all e = let h : b ≡ y = cc in subst (λ (z : B). (x : A) × (At (a ∷ rest) 0 x × R x z)) h (a, (refl, all.0))
zip_back R (a ∷ rest) (b ∷ bs) (suc i) y all e = zip_back R rest bs i y all.1 e

-- ---- what is added is of a line

module _ {Cause : Type 0} (before : List Entry) (lines : List (Line Cause)) (later : List Entry) where
  of_line : (i k : ℕ) (entry : Entry) (line : Line Cause) → At later i entry → At lines k line → IsAnswered before later line (replied (New i) i) → IsOfLine lines later i entry
  of_line i k entry skipped at at_line answered = absurd answered
  of_line i k entry (refused cause) at at_line answered = absurd answered
  of_line i k entry (read key payload) at at_line answered =
      let new = (answered.added i refl).1 in
      record { line = k; key = key; payload = payload; at = at_line; entry_is = at_one later i entry (entry_of (end_of (take i later)) key payload) at new }

  pub answers_add : (threads : ℕ) (answers : List (Answer Cause)) → AreAnswers before lines threads later answers → AreApart before later → AreAdded before lines later
  answers_add threads answers are apart = record {
    added = are.added;
    grown = are.grown;
    apart = apart;
    each = λ i entry low at.
        let one = are.once i low (at_below later i entry at) in
        let line = zip_back (IsAnswered before later) lines answers one.0 (replied (New i) i) are.each one.1.0 in
        of_line i one.0 entry line.0 at line.1.0 line.1.1;
  }

-- ---- batches

reply_grows : (reply : RecordReply) (entries : List Entry) (key : Key) (payload : List ℕ) → (rest : List Entry) × (grown_by reply entries key payload ≡ entries ++ rest)
reply_grows (New i) entries key payload = (entry_of (end_of entries) key payload ∷ [], refl)
reply_grows reply entries key payload = ([], sym (append-nil entries))

added_grows : (entries : List Entry) (elements : List Element) → (rest : List Entry) × (added_to entries elements ≡ entries ++ rest)
added_grows entries [] = ([], sym (append-nil entries))
added_grows entries (e ∷ es) =
    let here = reply_grows (reply_of entries e.0 e.1) entries e.0 e.1 in
    let further = added_grows (after_record entries e.0 e.1) es in
    (here.0 ++ further.0, further.1 ∙ (ap (λ (z : List Entry). z ++ further.0) here.1 ∙ append_assoc entries here.0 further.0))

added_then : (entries : List Entry) (xs ys : List Element) → added_to entries (xs ++ ys) ≡ added_to (added_to entries xs) ys
added_then entries [] ys = refl
added_then entries (x ∷ xs) ys = added_then (after_record entries x.0 x.1) xs ys

module _ {Cause : Type 0} (before : List Entry) (lines : List (Line Cause)) where
  abbrev alone : List Entry
  alone = entries_alone before lines

  -- so many batches are a prefix of all that is recorded
  batches_begin : (n : ℕ) → (rest : List Entry) × (alone ≡ after_batches before lines n ++ rest)
  batches_begin n =
      let cut = take_rest (records_of lines) (n * 64) in
      let more = added_grows (after_batches before lines n) cut.0 in
      (more.0, alone_added before lines ∙ (ap (added_to before) cut.1 ∙ (added_then before (take (n * 64) (records_of lines)) cut.0 ∙ more.1)))

  IsCut : List ℕ → Type 0
  IsCut bytes = (m : ℕ) × (length before ≤ m) × (m ≤ length alone) × Holds bytes (take m alone)

  cut_at : (n : ℕ) (bytes : List ℕ) → Holds bytes (after_batches before lines n) → IsCut bytes
  unfolding IsCut
  cut_at n bytes holds =
      let done = after_batches before lines n in
      let rest = batches_begin n in
      let grown = added_grows before (take (n * 64) (records_of lines)) in
      let low : length before ≤ length done = (let l = ap length grown.1 in let a = length-append before grown.0 in omega arith) in
      let high : length done ≤ length alone = (let l = ap length rest.1 in let a = length-append done rest.0 in omega arith) in
      (length done, low, high, subst (Holds bytes) (sym (ap (take (length done)) rest.1 ∙ take_front done rest.0)) holds)

  pub batches_add : AreAdded before lines alone → (old new : History) → LeavesBatches before lines old new → LeavesAdded before lines old new
  unfolding IsCut
  batches_add are old new run = record {
    later = alone;
    are = are;
    goes_on = run.goes_on;
    each = λ bytes (moment, from, (until, image)).
        let known = run.each moment from until in
        ⊎_elim (cut_at known.0 bytes) (cut_at (known.0 + 1) bytes) (known.1 bytes image);
  }

-- the record of one thread
pub alone_adds : {Cause : Type 0}
    → ((before : List Entry) (lines : List (Line Cause)) → AreAnswers before lines 1 (entries_alone before lines) (answers_alone before lines))
    → ((before : List Entry) (lines : List (Line Cause)) → AreApart before (entries_alone before lines))
    → (before : List Entry) (lines : List (Line Cause)) → AreAdded before lines (entries_alone before lines)
alone_adds recorded apart before lines = answers_add before lines (entries_alone before lines) 1 (answers_alone before lines) (recorded before lines) (apart before lines)
