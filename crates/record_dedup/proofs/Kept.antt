-- What stays known of a book over its calls.
use Rattle.std.proofs.Common.{◌≡◌, ◌⊎◌, inl, inr, ⊎_elim, ℕ, ◌+◌, ◌≤◌, true, false, List, [], ◌∷◌, ◌++◌, length, take, Result, Ok, Err, IfOk, OnOk, OnErr, sym, ap, ◌∙◌, subst, length-append, arith}
use Rattle.std.proofs.lemmas.List.{take_all}
use Rattle.disk_model.specs.Disk.{History, latest, IsImage, MightHaveLeft, GoesOn, LeavesOnly}
use Rattle.disk_model.specs.Faults.{Rose, HasCause}
use Rattle.disk_model.proofs.Moments.{goes_on-trans, might_have_left-cases, no_calls, then_runs, leaves_only-weaken}
use Rattle.foz_entry.specs.declared.cut.Entry.{Entry}
use Rattle.foz_entry.specs.Entries.{end_of}
use Rattle.foz_entry.specs.Limits.{count_limit}
use Rattle.foz_archive.specs.Reading.{Holds, writing, IsAcceptedAs}
use Rattle.foz_archive.specs.Kept.{Archived, IsSettled}
use Rattle.foz_archive.specs.Opened.{HoldAlike, IsClosedArchive, IsJustOpened, Mends}
use Rattle.record_words.proofs.Places.{take_within}
use Rattle.record_dedup.specs.Kept.{Booked, HoldsSome, IsWritten, IsKept, booked}

-- what the archive's laws say of the entries of a file
abbrev pub EndsAreSums : Type 0
EndsAreSums = (versions file : List ℕ) (entries : List Entry) (end : ℕ) → IsAcceptedAs versions file entries end → end ≡ end_of entries

abbrev pub CountsAreBounded : Type 0
CountsAreBounded = (versions file : List ℕ) (entries : List Entry) (end : ℕ) → IsAcceptedAs versions file entries end → length entries ≤ count_limit

abbrev pub OneContent : Type 0
OneContent = (file : List ℕ) (first second : List Entry) → Holds file first → Holds file second → first ≡ second

pub settled_written : (sums : EndsAreSums) (tells_content tells_images : Type 0) (content : List ℕ) (history : History) (entries : List Entry) (end : ℕ)
    → IsSettled tells_content tells_images content history entries end → IsWritten tells_content tells_images content history entries
settled_written sums tells_content tells_images content history entries end settled = record {
  archive = λ told. record { end = end; accepted = settled.accepted told; gate = settled.at_rest.gate told };
  held = λ told. inr (end, settled.accepted told);
  long = λ told. (settled.at_rest.gate told).long ∙ ap (λ n. n + 1) (sums writing content entries end (settled.accepted told));
  settled = settled.at_rest.durable;
}

rose_since : (first before now : ℕ) → first ≤ before → Rose before now → Rose first now
rose_since first before now earlier rose = omega arith

-- the first `flushed` entries or all of them are so many of the first
some_of : {D : Type 0} (book : Booked D) (bytes : List ℕ) → book.opened ≤ book.flushed → book.flushed ≤ length book.entries → Holds bytes (take book.flushed book.entries) ⊎ Holds bytes book.entries → HoldsSome book bytes
some_of book bytes low high (inl part) = (book.flushed, low, high, part)
some_of book bytes low high (inr all) = (length book.entries, (let g : book.opened ≤ length book.entries = omega arith in g), (let g : length book.entries ≤ length book.entries = omega arith in g), subst (Holds bytes) (sym (take_all (length book.entries) book.entries (omega arith))) all)

module _ {D : Type 0} (tells_content tells_images : Type 0) (content : D → List ℕ) (history : D → History) (faults : D → ℕ)
    (both : tells_images → tells_content) (is_now : (disk : D) → tells_images → content disk ≡ (latest (history disk)).now) where
  abbrev Known : Booked D → Type 0
  Known book = IsKept tells_content tells_images content history faults book

  abbrev Written : D → List Entry → Type 0
  Written disk entries = IsWritten tells_content tells_images (content disk) (history disk) entries

  -- once all is written, a crash leaves what the file holds
  image_holds : (disk : D) (entries : List Entry) → Written disk entries → tells_images → (bytes : List ℕ) → IsImage (latest (history disk)) bytes → Holds bytes entries
  image_holds disk entries written told bytes image = subst (λ (z : List ℕ). Holds z entries) (is_now disk told ∙ sym (written.settled told bytes image)) (written.held (both told))

  -- a file was read, and then mended
  module _ (disk mid : D) (entries : List Entry) (same : tells_content → content mid ≡ content disk)
      (read : tells_images → LeavesOnly (history disk) (history mid) (IsImage (latest (history disk)))) (held : tells_content → Holds (content disk) entries) where
    module _ (after : D) (mends : Mends tells_content tells_images content history mid after entries) where
      pub opening_runs : tells_images → LeavesOnly (history disk) (history after) (λ bytes. IsImage (latest (history disk)) bytes ⊎ HoldAlike (content disk) bytes)
      opening_runs told =
          then_runs (history disk) (history mid) (history after) (λ bytes. IsImage (latest (history disk)) bytes ⊎ HoldAlike (content disk) bytes)
          (leaves_only-weaken (history disk) (history mid) (IsImage (latest (history disk))) (λ bytes. IsImage (latest (history disk)) bytes ⊎ HoldAlike (content disk) bytes) (λ bytes image. inl image) (read told))
          (leaves_only-weaken (history mid) (history after) (λ bytes. Holds bytes entries) (λ bytes. IsImage (latest (history disk)) bytes ⊎ HoldAlike (content disk) bytes)
          (λ bytes holds. inr (record { entries = entries; before = held (both told); after = holds })) (mends.any_moment told))

      pub opening_untouched : tells_content → IsClosedArchive (content disk) → content after ≡ content disk
      opening_untouched told closed = mends.untouched told (subst IsClosedArchive (sym (same told)) closed) ∙ same told

      pub opening_only_reads : (is_image : tells_images → IsImage (latest (history disk)) (content disk)) → tells_images → IsClosedArchive (content disk) → LeavesOnly (history disk) (history after) (IsImage (latest (history disk)))
      opening_only_reads is_image told closed =
          then_runs (history disk) (history mid) (history after) (IsImage (latest (history disk))) (read told)
          (leaves_only-weaken (history mid) (history after) (λ bytes. bytes ≡ content mid) (IsImage (latest (history disk)))
          (λ bytes is. subst (IsImage (latest (history disk))) (sym (is ∙ same (both told))) (is_image told)) (mends.only_read told (subst IsClosedArchive (sym (same (both told))) closed)))

    pub opened_known : (sums : EndsAreSums) (one : OneContent) (archive : Archived D) (end count : ℕ) → Mends tells_content tells_images content history mid archive.disk entries → IsJustOpened entries end archive
        → count ≡ archive.flushed → IsSettled tells_content tells_images (content archive.disk) (history archive.disk) archive.entries archive.end → faults disk ≤ faults archive.disk → Known (booked archive disk count)
    opened_known sums one archive end count mends opened counted settled later =
        let written = settled_written sums tells_content tells_images (content archive.disk) (history archive.disk) archive.entries archive.end settled in
        let all = opened.flushed in
        let whole = opened.whole in
        let taken : take archive.flushed archive.entries ≡ archive.entries = take_all archive.flushed archive.entries (omega arith) in record {
          written = λ w. subst (λ (z : List Entry). Written archive.disk z) (sym taken) written;
          opened = omega arith;
          flushed = omega arith;
          later = later;
          fault = λ broken. absurd cc;
          now = λ told bytes image. inr (image_holds archive.disk archive.entries written told bytes image);
          goes_on = λ told. (opening_runs archive.disk mends told).goes_on;
          since = λ told bytes left. ⊎_elim (λ (i : IsImage (latest (history disk)) bytes). inl i)
              (λ (h : HoldAlike (content disk) bytes). inr (some_of (booked archive disk count) bytes (omega arith) (omega arith)
              (inr (subst (Holds bytes) (one (content disk) h.entries entries h.before (held (both told)) ∙ sym opened.entries) h.after))))
              ((opening_runs archive.disk mends told).each bytes left);
        }

  module _ (old : Archived D) (began : D) (opened : ℕ) (known : Known (booked old began opened)) where
    -- after a commit
    module _ (new : Archived D) (same : new.entries ≡ old.entries)
        (leaves : tells_images → LeavesOnly (history old.disk) (history new.disk) (λ bytes. Holds bytes (take old.flushed old.entries) ⊎ Holds bytes old.entries)) where
      abbrev since_all : tells_images → (bytes : List ℕ) → MightHaveLeft (history new.disk) (history began).moment bytes → IsImage (latest (history began)) bytes ⊎ HoldsSome (booked old began opened) bytes
      since_all told bytes left =
          ⊎_elim (known.since told bytes) (λ (l : MightHaveLeft (history new.disk) (history old.disk).moment bytes). inr (some_of (booked old began opened) bytes known.opened known.flushed ((leaves told).each bytes l)))
          (might_have_left-cases (history old.disk) (history new.disk) (history began).moment bytes (leaves told).goes_on (known.goes_on told).later left)

      some_same : (bytes : List ℕ) → HoldsSome (booked old began opened) bytes → HoldsSome (booked new began opened) bytes
      some_same bytes (n, low, high, held) = (n, low, (let l = ap length same in let g : n ≤ length new.entries = omega arith in g), subst (λ (z : List Entry). Holds bytes (take n z)) (sym same) held)

      since_same : tells_images → (bytes : List ℕ) → MightHaveLeft (history new.disk) (history began).moment bytes → IsImage (latest (history began)) bytes ⊎ HoldsSome (booked new began opened) bytes
      since_same told bytes left = ⊎_elim (λ (i : IsImage (latest (history began)) bytes). inl i) (λ (h : HoldsSome (booked old began opened) bytes). inr (some_same bytes h)) (since_all told bytes left)

      committed : (sums : EndsAreSums) → new.flushed ≡ length old.entries → new.broken ≡ false → IsSettled tells_content tells_images (content new.disk) (history new.disk) new.entries new.end → faults old.disk ≤ faults new.disk
          → Known (booked new began opened)
      committed sums all whole settled later =
          let written = settled_written sums tells_content tells_images (content new.disk) (history new.disk) new.entries new.end settled in
          let l = ap length same in
          let low = known.opened in
          let high = known.flushed in
          let earlier = known.later in
          let taken : take new.flushed new.entries ≡ new.entries = take_all new.flushed new.entries (omega arith) in record {
            written = λ w. subst (λ (z : List Entry). Written new.disk z) (sym taken) written;
            opened = omega arith;
            flushed = omega arith;
            later = omega arith;
            fault = λ broken. absurd cc;
            now = λ told bytes image. inr (image_holds new.disk new.entries written told bytes image);
            goes_on = λ told. goes_on-trans (history began) (history old.disk) (history new.disk) (known.goes_on told) (leaves told).goes_on;
            since = since_same;
          }

      failed : new.flushed ≡ old.flushed → new.broken ≡ true → faults old.disk ≤ faults new.disk → Rose (faults old.disk) (faults new.disk) → Known (booked new began opened)
      failed stays broken later rose =
          let l = ap length same in
          let low = known.opened in
          let high = known.flushed in
          let earlier = known.later in record {
            written = λ w. absurd cc;
            opened = omega arith;
            flushed = omega arith;
            later = omega arith;
            fault = λ b. rose_since (faults began) (faults old.disk) (faults new.disk) earlier rose;
            now = λ told bytes image.
                let image_left : MightHaveLeft (history new.disk) (history old.disk).moment bytes =
                ((history new.disk).moment, (leaves told).goes_on.later, ((let g : (history new.disk).moment ≤ (history new.disk).moment = omega arith in g), image)) in
                subst (λ (z : List Entry). Holds bytes (take new.flushed z) ⊎ Holds bytes z) (sym same)
                (subst (λ (n : ℕ). Holds bytes (take n old.entries) ⊎ Holds bytes old.entries) (sym stays) ((leaves told).each bytes image_left));
            goes_on = λ told. goes_on-trans (history began) (history old.disk) (history new.disk) (known.goes_on told) (leaves told).goes_on;
            since = since_same;
          }

      pub commit_known : (sums : EndsAreSums) {E : Type 0} (result : Result ℕ E) → IfOk result (λ count. (count ≡ length old.entries) × (new.flushed ≡ count) × (new.flushed_end ≡ new.end) × (new.broken ≡ false))
          → OnErr result ((new.broken ≡ true) × (new.flushed ≡ old.flushed) × (new.flushed_end ≡ old.flushed_end))
          → OnOk result (IsSettled tells_content tells_images (content new.disk) (history new.disk) new.entries new.end) → HasCause (faults old.disk) (faults new.disk) result → Known (booked new began opened)
      commit_known sums (Ok count) ok err settled cause = committed sums (ok.1 ∙ ok.0) ok.3 settled cause.later
      commit_known sums (Err error) ok err settled cause = failed err.1 err.0 cause.later cause.failed

    -- after a push
    pub push_known : (new : Archived D) (entry : Entry) → old.broken ≡ false → new.entries ≡ old.entries ++ entry ∷ [] → new.disk ≡ old.disk → new.flushed ≡ old.flushed → new.broken ≡ old.broken → Known (booked new began opened)
    push_known new entry whole more disk flushed broken =
        let l = ap length more in
        let a = length-append old.entries (entry ∷ []) in
        let low = known.opened in
        let high = known.flushed in
        let taken : take new.flushed new.entries ≡ take old.flushed old.entries =
        ap (λ (n : ℕ). take n new.entries) flushed ∙ (ap (λ (z : List Entry). take old.flushed z) more ∙ take_within old.entries (entry ∷ []) old.flushed known.flushed) in
        let written : Written new.disk (take new.flushed new.entries) =
        subst (λ (z : List Entry). Written new.disk z) (sym taken) (subst (λ (d : D). Written d (take old.flushed old.entries)) (sym disk) (known.written whole)) in record {
          written = λ w. written;
          opened = omega arith;
          flushed = omega arith;
          later = subst (λ (d : D). faults began ≤ faults d) (sym disk) known.later;
          fault = λ b. absurd (let never = broken ∙ whole in cc);
          now = λ told bytes image. inl (image_holds new.disk (take new.flushed new.entries) written told bytes image);
          goes_on = λ told. subst (λ (d : D). GoesOn (history began) (history d)) (sym disk) (known.goes_on told);
          since = λ told bytes left.
              ⊎_elim (λ (i : IsImage (latest (history began)) bytes). inl i) (λ (h : HoldsSome (booked old began opened) bytes). inr (some_more bytes h))
              (known.since told bytes (subst (λ (d : D). MightHaveLeft (history d) (history began).moment bytes) disk left));
        }
      where
        some_more : (bytes : List ℕ) → HoldsSome (booked old began opened) bytes → HoldsSome (booked new began opened) bytes
        some_more bytes (n, from, upto, held) =
            let l = ap length more in
            let a = length-append old.entries (entry ∷ []) in
            (n, from, (let g : n ≤ length new.entries = omega arith in g), subst (λ (z : List Entry). Holds bytes z) (sym (ap (λ (z : List Entry). take n z) more ∙ take_within old.entries (entry ∷ []) n upto)) held)

-- a call that doesn't reach the disk leaves what it left before
pub no_leaves : {D : Type 0} (tells_content tells_images : Type 0) (content : D → List ℕ) (history : D → History) (faults : D → ℕ) (book : Booked D) → IsKept tells_content tells_images content history faults book → tells_images
    → LeavesOnly (history book.disk) (history book.disk) (λ bytes. Holds bytes (take book.flushed book.entries) ⊎ Holds bytes book.entries)
no_leaves tells_content tells_images content history faults book known told = no_calls (history book.disk) (λ bytes. Holds bytes (take book.flushed book.entries) ⊎ Holds bytes book.entries) (known.now told)
