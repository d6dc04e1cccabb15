-- What an opening leaves.
use Rattle.std.proofs.Common.{◌≡◌, ◌⊎◌, inl, inr, ℕ, ◌+◌, ◌-◌, ◌≤◌, List, [], ◌∷◌, ◌++◌, length, take, drop, refl, sym, ◌∙◌, ap, subst, arith, append-nil, length-append, length-drop}
use Rattle.std.proofs.lemmas.List.{drop_all}
use Rattle.std.specs.Prelude.{Result, Ok, Err, OnOk, IfOk, true, false}
use Rattle.disk_model.specs.Disk.{History, latest, IsImage, NothingPending, LeavesOnly, Torn, overwritten}
use Rattle.disk_model.proofs.Moments.{leaves_only-weaken, then_runs, no_calls}
use Rattle.foz_entry.specs.declared.cut.Entry.{Entry}
use Rattle.gate_append.specs.Gate.{IsClosedAt, IsAtRest, IsCutOrClosed}
use Rattle.foz_archive.specs.Reading.{magic, header, writing, HasHeader, is_clean, InRow, IsAcceptedAs, IsAccepted, IsNew, Holds, SomeFileHolds}
use Rattle.foz_archive.specs.Refusal.{IsRefusedAs, IsRefusedToWrite}
use Rattle.foz_archive.specs.Kept.{Archived, IsSettled, IsWaiting}
use Rattle.foz_archive.specs.Opened.{HoldAlike, IsClosedArchive, IsJustOpened, Begins, Mends}
use Rattle.foz_archive.specs.declared.refusal.ArchiveError.{ArchiveError}
use Rattle.foz_archive.proofs.Rows.{none_short}
use Rattle.foz_archive.proofs.Fronts.{length-header, header_there, header_or_not}
use Rattle.foz_archive.proofs.Unique.{Stand-unique, never_both}
use Rattle.foz_archive.proofs.Held.{opening_holds, batch_accepted}

module _ (content : List ℕ) (entries : List Entry) (end : ℕ) (accepted : IsAccepted content entries end) where
  -- a file that is closed after its entries holds them
  pub closed_accepted : IsAccepted (take end content ++ 0 ∷ []) entries end
  closed_accepted =
      let few = accepted.few in
      let none = append-nil entries in
      subst (λ (es : List Entry). IsAccepted (take end content ++ 0 ∷ []) es end) none
      (batch_accepted content entries end accepted [] (0 ∷ []) end (refl, refl) accepted.near (omega (arith, few, ap length none)))

  -- an archive that its gate closes is closed at the end of its entries
  pub closed_at : IsClosedArchive content → IsClosedAt end content
  closed_at closed =
      let same = Stand-unique 16 (drop 16 content) closed.entries entries closed.end end closed.accepted.reads.stand accepted.reads.stand in
      subst (λ (n : ℕ). IsClosedAt n content) same.1 closed.gate

-- what is settled once the gate is closed
pub opened_settled : (tells_content tells_images : Type 0) (content new : List ℕ) (history : History) (entries : List Entry) (end : ℕ) → (tells_content → IsAccepted content entries end)
    → (tells_content → new ≡ take end content ++ 0 ∷ []) → IsAtRest tells_content tells_images new history end → IsSettled tells_content tells_images new history entries end
opened_settled tells_content tells_images content new history entries end accepted is rest = record {
  at_rest = rest;
  accepted = λ told. subst (λ (l : List ℕ). IsAccepted l entries end) (sym (is told)) (closed_accepted content entries end (accepted told));
}

-- nothing waits in an archive that was just opened
pub none_waits : (entries : List Entry) (end count : ℕ) (batch : List ℕ) → batch ≡ 0 ∷ [] → count ≡ length entries → IsWaiting end batch entries count
none_waits entries end count batch is counts = record {
  row = subst (λ (es : List Entry). InRow end batch es (end + (length batch - 1)) (0 ∷ [])) (sym (drop_all count entries (omega (arith, counts)))) (omega (arith, ap length is), is);
  some = omega (arith, ap length is);
  counted = omega (arith, counts);
}

-- a file of at most seventeen bytes whose header stands has no entries
pub bare : (bytes : List ℕ) → HasHeader writing bytes → length bytes ≤ 17 → IsAccepted bytes [] 16
bare bytes begins short = record {
  reads = record { begins = begins; stand = (refl, none_short (drop 16 bytes) (omega (arith, length-drop 16 bytes))) };
  short = omega arith;
  near = omega arith;
  few = omega arith;
}

-- a new file, while header and gate are written as one piece, holds nothing
new_holds : (content bytes : List ℕ) → length content ≤ 17 → Torn 0 17 content bytes → Holds bytes []
new_holds content bytes short torn =
    let few : length bytes ≤ 17 = omega (arith, torn.no_longer) in
    elim (header_or_not writing bytes) [
      | inl has ↦ inr (16, bare bytes has few)
      | inr other ↦ inl ((few, other), refl)
    ]

-- and then has exactly these bytes
new_made : (content new : List ℕ) → length content ≤ 17 → new ≡ overwritten content 0 (header ++ 0 ∷ []) → new ≡ header ++ 0 ∷ []
unfolding header magic
new_made content new short is =
    let long : length (header ++ 0 ∷ []) ≡ 17 = omega (arith, length-append header (0 ∷ []), length-header) in
    is ∙ ap (λ (l : List ℕ). (header ++ 0 ∷ []) ++ l) (drop_all (length (header ++ 0 ∷ [])) content (omega (arith, long))) ∙ append-nil (header ++ 0 ∷ [])

made_accepted : IsAccepted (header ++ 0 ∷ []) [] 16
made_accepted = bare (header ++ 0 ∷ []) (header_there (0 ∷ [])) (omega (arith, length-append header (0 ∷ []), length-header))

pub new_some_file : SomeFileHolds [] 16
new_some_file = record { file = header ++ 0 ∷ []; accepted = made_accepted }

-- a new file is an archive without entries, once header and gate stand
pub begun : {T E : Type 0} (content new : List ℕ) (result : Result T E) → OnOk result (new ≡ overwritten content 0 (header ++ 0 ∷ []))
    → OnOk result ((entries : List Entry) (end : ℕ) → Begins true content entries end → IsAccepted new entries end)
begun content new (Ok value) is = λ entries end (fresh, none, at).
    subst (λ (l : List ℕ). IsAccepted l entries end) (sym (new_made content new fresh.0 is))
    (subst (λ (es : List Entry). IsAccepted (header ++ 0 ∷ []) es end) (sym none)
    (subst (λ (n : ℕ). IsAccepted (header ++ 0 ∷ []) [] n) (sym at) made_accepted))
begun content new (Err error) is = tt

-- what begins so holds these entries
pub begins_hold : (is_new : _) (content : List ℕ) (entries : List Entry) (end : ℕ) → Begins is_new content entries end → Holds content entries
begins_hold true content entries end (fresh, none, at) = inl (fresh, none)
begins_hold false content entries end accepted = inr (end, accepted)

-- and so does the archive that was opened
pub opened_holds : {D E : Type 0} (result : Result (Archived D) E) (content : List ℕ) (entries : List Entry) (end : ℕ) → IfOk result (IsJustOpened entries end) → Holds content entries
    → IfOk result (λ archive. Holds content archive.entries)
opened_holds (Ok archive) content entries end opened held = subst (λ (es : List Entry). Holds content es) (sym opened.entries) held
opened_holds (Err error) content entries end opened held = tt

-- a file that is read isn't refused
pub accepted_not_refused : (versions file : List ℕ) (entries : List Entry) (end : ℕ) (error : ArchiveError) → IsAcceptedAs versions file entries end → IsRefusedAs versions file error → ⊥
accepted_not_refused versions file entries end error accepted refused =
    never_both versions file (record { entries = entries; end = end; length = length file; clean = is_clean (drop end file) }) error (record { accepted = accepted; length = refl; clean = refl }) refused

-- a file of at most seventeen bytes is refused for its header alone, and is new then
pub refused_is_new : (file : List ℕ) (error : ArchiveError) → IsRefusedToWrite file error → length file ≤ 17 → IsNew file
refused_is_new file error refused short = (short, λ begins. accepted_not_refused writing file [] 16 error (bare file begins short) refused)

module _ {D : Type 0} (tells_content tells_images : Type 0) (both : tells_images → tells_content) (content : D → List ℕ) (history : D → History) where
  -- header and gate of a new file, written as one piece
  pub new_mends : (old new : D) → (tells_images → LeavesOnly (history old) (history new) (Torn 0 17 (content old))) → (entries : List Entry) (end : ℕ)
      → (tells_content → Begins true (content old) entries end) → Mends tells_content tells_images content history old new entries
  new_mends old new run entries end begins = record {
    any_moment = λ told.
        let (fresh, none, at) = begins (both told) in
        leaves_only-weaken (history old) (history new) (Torn 0 17 (content old)) (λ bytes. Holds bytes entries)
        (λ bytes torn. subst (λ (es : List Entry). Holds bytes es) (sym none) (new_holds (content old) bytes fresh.0 torn)) (run told);
    untouched = λ told closed. absurd ((begins told).0.1 closed.accepted.reads.begins);
    only_read = λ told closed. absurd ((begins (both told)).0.1 closed.accepted.reads.begins);
  }

  module _ (is_now : (disk : D) → tells_images → content disk ≡ (latest (history disk)).now) where
    -- where nothing is pending, a run of no calls leaves what the content has
    still : (disk : D) (P : List ℕ → Type 0) → tells_images → NothingPending (latest (history disk)) → P (content disk) → LeavesOnly (history disk) (history disk) P
    still disk P told durable here = no_calls (history disk) P (λ bytes image. subst P (is_now disk told ∙ sym (durable bytes image)) here)

    -- a file that stays as it is
    pub nothing_mends : (disk : D) → (tells_images → NothingPending (latest (history disk))) → (entries : List Entry) (end : ℕ)
        → (tells_content → IsAccepted (content disk) entries end) → Mends tells_content tells_images content history disk disk entries
    nothing_mends disk durable entries end accepted = record {
      any_moment = λ told. still disk (λ bytes. Holds bytes entries) told (durable told) (inr (end, accepted (both told)));
      untouched = λ told closed. refl;
      only_read = λ told closed. still disk (λ bytes. bytes ≡ content disk) told (durable told) refl;
    }

  -- the closing of a file after its entries
  pub gate_mends : (old new : D) (entries : List Entry) (end : ℕ) → (tells_content → IsAccepted (content old) entries end)
      → (tells_images → LeavesOnly (history old) (history new) (IsCutOrClosed end (content old)))
      → (tells_content → IsClosedAt end (content old) → content new ≡ content old)
      → (tells_images → IsClosedAt end (content old) → LeavesOnly (history old) (history new) (λ bytes. bytes ≡ content old))
      → Mends tells_content tells_images content history old new entries
  gate_mends old new entries end accepted run untouched only_read = record {
    any_moment = λ told. leaves_only-weaken (history old) (history new) (IsCutOrClosed end (content old)) (λ bytes. Holds bytes entries)
        (opening_holds (content old) entries end (accepted (both told))) (run told);
    untouched = λ told closed. untouched told (closed_at (content old) entries end (accepted told) closed);
    only_read = λ told closed. only_read told (closed_at (content old) entries end (accepted (both told)) closed);
  }

  -- one mending after another
  pub then_mends : (old mid new : D) (entries : List Entry) → Mends tells_content tells_images content history old mid entries → Mends tells_content tells_images content history mid new entries
      → Mends tells_content tells_images content history old new entries
  then_mends old mid new entries first second = record {
    any_moment = λ told. then_runs (history old) (history mid) (history new) (λ bytes. Holds bytes entries) (first.any_moment told) (second.any_moment told);
    untouched = λ told closed. let same = first.untouched told closed in second.untouched told (subst IsClosedArchive (sym same) closed) ∙ same;
    only_read = λ told closed.
        let same = first.untouched (both told) closed in
        then_runs (history old) (history mid) (history new) (λ bytes. bytes ≡ content old) (first.only_read told closed)
        (leaves_only-weaken (history mid) (history new) (λ bytes. bytes ≡ content mid) (λ bytes. bytes ≡ content old) (λ bytes is. is ∙ same) (second.only_read told (subst IsClosedArchive (sym same) closed)));
  }

  -- a reading, and then a mending
  module _ (old mid new : D) (entries : List Entry) (same : tells_content → content mid ≡ content old) (held : tells_content → Holds (content old) entries)
      (run : tells_images → LeavesOnly (history old) (history mid) (IsImage (latest (history old)))) (mends : Mends tells_content tells_images content history mid new entries) where
    pub opening_leaves : tells_images → LeavesOnly (history old) (history new) (λ bytes. IsImage (latest (history old)) bytes ⊎ HoldAlike (content old) bytes)
    opening_leaves told =
        let P : List ℕ → Type 0 = λ bytes. IsImage (latest (history old)) bytes ⊎ HoldAlike (content old) bytes in
        then_runs (history old) (history mid) (history new) P
        (leaves_only-weaken (history old) (history mid) (IsImage (latest (history old))) P (λ bytes image. inl image) (run told))
        (leaves_only-weaken (history mid) (history new) (λ bytes. Holds bytes entries) P (λ bytes after. inr (record { entries = entries; before = held (both told); after = after })) (mends.any_moment told))

    pub opening_keeps : tells_content → IsClosedArchive (content old) → content new ≡ content old
    opening_keeps told closed = mends.untouched told (subst IsClosedArchive (sym (same told)) closed) ∙ same told

    pub opening_reads : ((disk : D) → tells_images → IsImage (latest (history disk)) (content disk)) → tells_images → IsClosedArchive (content old)
        → LeavesOnly (history old) (history new) (IsImage (latest (history old)))
    opening_reads is_image told closed =
        then_runs (history old) (history mid) (history new) (IsImage (latest (history old))) (run told)
        (leaves_only-weaken (history mid) (history new) (λ bytes. bytes ≡ content mid) (IsImage (latest (history old)))
        (λ bytes is. subst (IsImage (latest (history old))) (sym (is ∙ same (both told))) (is_image old told))
        (mends.only_read told (subst IsClosedArchive (sym (same (both told))) closed)))
