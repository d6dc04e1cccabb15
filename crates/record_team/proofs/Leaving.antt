-- What a crash leaves of a capture that several threads record.
use Rattle.std.proofs.Common.{◌≡◌, ◌⊎◌, ⊎_elim, ℕ, ◌<◌, ◌≤◌, List, [], ◌∷◌, ◌++◌, length, take, refl, sym, ap, ◌∙◌, subst, length-append, arith}
use Rattle.disk_model.specs.Disk.{History, latest, IsImage, NothingPending, MightHaveLeft, GoesOn, LeavesOnly}
use Rattle.foz_entry.specs.declared.cut.Entry.{Entry}
use Rattle.foz_archive.specs.Opened.{HoldAlike}
use Rattle.foz_archive.specs.Reading.{Holds}
use Rattle.record_words.specs.Recorded.{Line}
use Rattle.record_lines.specs.Added.{AreAdded, LeavesAdded}
use Rattle.record_lines.specs.Capture.{CaptureLeaves}
use Rattle.record_team.proofs.Adding.{nothing_added}

take_front : {X : Type 0} (xs rest : List X) → take (length xs) (xs ++ rest) ≡ xs
take_front [] rest = refl
take_front {X} (x ∷ xs) rest = ap (λ (z : List X). x ∷ z) (take_front xs rest)

take_all : {X : Type 0} (xs : List X) → take (length xs) xs ≡ xs
take_all [] = refl
take_all {X} (x ∷ xs) = ap (λ (z : List X). x ∷ z) (take_all xs)

module _ {Cause : Type 0} (lines : List (Line Cause)) (threads : ℕ) (several : 1 < threads) (one_content : (file : List ℕ) (first second : List Entry) → Holds file first → Holds file second → first ≡ second)
    (old : History) (content : List ℕ) (durable : NothingPending (latest old)) (is_now : content ≡ (latest old).now) where
  by_added : (new : History) → GoesOn old new → ((entries : List Entry) → Holds content entries → LeavesAdded entries lines old new) → CaptureLeaves content old new lines threads
  by_added new goes_on added = record {
    goes_on = goes_on;
    added = added;
    batches = λ one entries held. absurd (omega arith);
  }

  -- an image of the disk as it was holds what the content does
  of_image : (bytes : List ℕ) → IsImage (latest old) bytes → (entries : List Entry) → Holds content entries → Holds bytes entries
  of_image bytes image entries held = subst (λ (l : List ℕ). Holds l entries) (is_now ∙ sym (durable bytes image)) held

  -- an archive that was refused
  pub opening_leaves : (new : History) → LeavesOnly old new (λ bytes. IsImage (latest old) bytes ⊎ HoldAlike content bytes) → CaptureLeaves content old new lines threads
  opening_leaves new run = by_added new run.goes_on (λ entries held. record {
    later = entries;
    are = nothing_added entries lines;
    goes_on = run.goes_on;
    each = λ bytes left.
        let holds = ⊎_elim (λ (image : IsImage (latest old) bytes). of_image bytes image entries held)
        (λ (alike : HoldAlike content bytes). subst (Holds bytes) (one_content content alike.entries entries alike.before held) alike.after)
        (run.each bytes left) in
        (length entries, omega arith, omega arith, subst (Holds bytes) (sym (take_all entries)) holds);
  })

  abbrev HoldsSomeOf : ℕ → List Entry → List ℕ → Type 0
  HoldsSomeOf opened later bytes = (n : ℕ) × (opened ≤ n) × (n ≤ length later) × Holds bytes (take n later)

  -- an archive in which lines were recorded
  pub book_leaves : (new : History) → GoesOn old new → (first later : List Entry) → Holds content first → AreAdded first lines later → (opened : ℕ) → opened ≡ length first
      → ((bytes : List ℕ) → MightHaveLeft new old.moment bytes → IsImage (latest old) bytes ⊎ HoldsSomeOf opened later bytes) → CaptureLeaves content old new lines threads
  book_leaves new goes_on first later holds are opened opened_is since = by_added new goes_on (λ entries held.
      subst (λ (es : List Entry). LeavesAdded es lines old new) (one_content content first entries holds held) record {
        later = later;
        are = are;
        goes_on = goes_on;
        each = λ bytes left. ⊎_elim (λ (image : IsImage (latest old) bytes). before bytes image)
            (λ (some : HoldsSomeOf opened later bytes). (some.0, (let low = some.1 in omega arith), some.2, some.3))
            (since bytes left);
      })
    where
      begins : take (length first) later ≡ first
      begins = ap (take (length first)) are.grown ∙ take_front first are.added

      before : (bytes : List ℕ) → IsImage (latest old) bytes → (n : ℕ) × (length first ≤ n) × (n ≤ length later) × Holds bytes (take n later)
      before bytes image =
          let high : length first ≤ length later = (let l = ap length are.grown in let a = length-append first are.added in omega arith) in
          (length first, omega arith, high, subst (Holds bytes) (sym begins) (of_image bytes image first holds))
