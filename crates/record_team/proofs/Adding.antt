-- What the calls of the threads' seats add.
use Rattle.std.proofs.Common.{◌≡◌, ◌⊎◌, ⊎_elim, inl, inr, ℕ, zero, suc, ◌+◌, ◌%◌, ◌<◌, ◌≤◌, ◌==◌, Bool, true, false, if◌then◌else◌, List, [], ◌∷◌, ◌++◌, length, take, Some, refl, sym, ap, ◌∙◌, subst, append_assoc, append-nil, zero-add, arith}
use Rattle.std.specs.List.{AllZip}
use Rattle.std.proofs.lemmas.Bool.{cases_lt}
use Rattle.std.proofs.lemmas.Bool.Decides.{nat_tests}
use Rattle.foz_words.specs.declared.key.Key.{Key}
use Rattle.foz_entry.specs.declared.cut.Entry.{Entry}
use Rattle.foz_entry.specs.Entries.{end_of, entry_of}
use Rattle.record_words.specs.declared.note.FullNote.{FullNote}
use Rattle.record_words.specs.declared.note.RecordCall.{RecordCall}
use Rattle.record_words.specs.declared.note.RecordCall.TheVariants.{Record, Flush}
use Rattle.record_words.specs.declared.note.RecordReply.{RecordReply}
use Rattle.record_words.specs.declared.note.RecordReply.TheVariants.{New, Flushed, DiskFault}
use Rattle.record_words.specs.declared.state.RecorderState.{RecorderState}
use Rattle.record_words.specs.Recorder.{after}
use Rattle.record_words.specs.Story.{At, AreApart, after_note, leads}
use Rattle.record_words.specs.Recorded.{Line, skipped, refused, read}
use Rattle.record_lines.specs.Added.{IsOfLine, AreAdded}
use Rattle.record_threads.specs.Ties.{IsTied, IsTiedBy}
use Rattle.record_threads.specs.Threads.{Given, given_of, IsCallAt, is_own, is_record, places_from, places_of, reads_from}
use Rattle.record_team.specs.Work.{HasRecorded}
use Rattle.record_team.proofs.Seats.{at_below, at_append, mapped_at}

-- nothing was added
pub nothing_added : {Cause : Type 0} (before : List Entry) (lines : List (Line Cause)) → AreAdded before lines before
nothing_added before lines = record {
  added = [];
  grown = sym (append-nil before);
  apart = λ i x y j low below at_x at_y sound. (let b = at_below before i x at_x in absurd (omega arith));
  each = λ i entry low at. (let b = at_below before i entry at in absurd (omega arith));
}

-- what one thread's lines give to record is what a line of the capture reads
line_given : {Cause : Type 0} (k threads thread : ℕ) (lines : List (Line Cause)) (r : ℕ) (given : Given) → At (reads_from k threads thread lines) r given → (line : ℕ) × At lines line (read given.0 given.1)
line_given k threads thread [] r given at = absurd cc
line_given k threads thread (skipped ∷ lines) r given at = let l = line_given (k + 1) threads thread lines r given at in (suc l.0, l.1)
line_given k threads thread (refused cause ∷ lines) r given at = let l = line_given (k + 1) threads thread lines r given at in (suc l.0, l.1)
line_given {Cause} k threads thread (read key payload ∷ lines) r given at = by_test (k % threads == thread) r at (λ s e. line_given (k + 1) threads thread lines s given e)
  where
    by_test : (b : Bool) (r : ℕ) → At (if b then (key, payload) ∷ reads_from (k + 1) threads thread lines else reads_from (k + 1) threads thread lines) r given
        → ((s : ℕ) → At (reads_from (k + 1) threads thread lines) s given → (line : ℕ) × At lines line (read given.0 given.1)) → (line : ℕ) × At (read key payload ∷ lines) line (read given.0 given.1)
    by_test true zero e further = (0, (let same : ◌≡◌ {A = Given} (key, payload) given = cc in λ j. Some (read (same j).0 (same j).1)))
    by_test true (suc r) e further = let l = further r e in (suc l.0, l.1)
    by_test false r e further = let l = further r e in (suc l.0, l.1)

-- ---- what a story adds

after_grows : (s : RecorderState) (call : RecordCall) (reply : RecordReply) (payload : List ℕ) → (more : List Entry) × ((after s call reply payload).entries ≡ s.entries ++ more)
after_grows s (Record key) (New i) payload = (entry_of (end_of s.entries) key payload ∷ [], refl)
after_grows s (Record key) reply payload = ([], sym (append-nil s.entries))
after_grows s Flush (Flushed count) payload = ([], sym (append-nil s.entries))
after_grows s Flush DiskFault payload = ([], sym (append-nil s.entries))
after_grows s Flush reply payload = ([], sym (append-nil s.entries))

pub leads_grows : (s : RecorderState) (story : List FullNote) → (more : List Entry) × ((leads s story).entries ≡ s.entries ++ more)
leads_grows s [] = ([], sym (append-nil s.entries))
leads_grows s (n ∷ ns) =
    let here = after_grows s n.note.call n.note.reply n.payload in
    let further = leads_grows (after_note s n) ns in
    (here.0 ++ further.0, further.1 ∙ (ap (λ (l : List Entry). l ++ further.0) here.1 ∙ append_assoc s.entries here.0 further.0))

take_front : {X : Type 0} (xs rest : List X) → take (length xs) (xs ++ rest) ≡ xs
take_front [] rest = refl
take_front {X} (x ∷ xs) rest = ap (λ (z : List X). x ∷ z) (take_front xs rest)

at_front : {X : Type 0} (xs rest : List X) (i : ℕ) (x : X) → At xs i x → At (xs ++ rest) i x
at_front [] rest i x e = absurd cc
at_front (y ∷ ys) rest zero x e = e
at_front (y ∷ ys) rest (suc i) x e = at_front ys rest i x e

-- the entry at place i is new by the note at place p
record IsNewBy (s : RecorderState) (story : List FullNote) (i : ℕ) (entry : Entry) (p : ℕ) : Type 0 where
  pub note : FullNote
  pub at : At story p note
  pub key : Key
  pub call : note.note.call ≡ Record key
  pub index : ℕ
  pub reply : note.note.reply ≡ New index
  pub before : (leads s (take p story)).entries ≡ take i (leads s story).entries
  pub entry_is : entry ≡ entry_of (end_of (leads s (take p story)).entries) key note.payload

-- what one call adds
record IsNewAfter (s : RecorderState) (call : RecordCall) (reply : RecordReply) (payload : List ℕ) (i : ℕ) (entry : Entry) : Type 0 where
  pub key : Key
  pub call_is : call ≡ Record key
  pub index : ℕ
  pub reply_is : reply ≡ New index
  pub last : i ≡ length s.entries
  pub entry_is : entry ≡ entry_of (end_of s.entries) key payload

nothing_new : {P : Type 0} (entries : List Entry) (i : ℕ) (entry : Entry) → length entries ≤ i → At entries i entry → P
nothing_new entries i entry low at = let b = at_below entries i entry at in absurd (omega arith)

new_after : (s : RecorderState) (call : RecordCall) (reply : RecordReply) (payload : List ℕ) (i : ℕ) (entry : Entry) → length s.entries ≤ i → At (after s call reply payload).entries i entry → IsNewAfter s call reply payload i entry
new_after s (Record key) (New index) payload i entry low at =
    ⊎_elim (λ (h : At s.entries i entry). nothing_new s.entries i entry low h)
    (λ (h : (j : ℕ) × (At (entry_of (end_of s.entries) key payload ∷ []) j entry × (i ≡ length s.entries + j))). by_place h.0 h.1.0 h.1.1)
    (at_append s.entries (entry_of (end_of s.entries) key payload ∷ []) i entry at)
  where
    by_place : (j : ℕ) → At (entry_of (end_of s.entries) key payload ∷ []) j entry → i ≡ length s.entries + j → IsNewAfter s (Record key) (New index) payload i entry
    by_place zero here is = record { key = key; call_is = refl; index = index; reply_is = refl; last = omega arith; entry_is = cc }
    by_place (suc j) here is = absurd cc
new_after s (Record key) reply payload i entry low at = nothing_new s.entries i entry low at
new_after s Flush (Flushed count) payload i entry low at = nothing_new s.entries i entry low at
new_after s Flush DiskFault payload i entry low at = nothing_new s.entries i entry low at
new_after s Flush reply payload i entry low at = nothing_new s.entries i entry low at

-- each entry that a story adds is new by one of its notes
new_by : (s : RecorderState) (story : List FullNote) (i : ℕ) (entry : Entry) → length s.entries ≤ i → At (leads s story).entries i entry → (p : ℕ) × IsNewBy s story i entry p
new_by s [] i entry low at = nothing_new s.entries i entry low at
new_by s (n ∷ ns) i entry low at = by_place (λ above. new_by (after_note s n) ns i entry above at) (cases_lt i (length (after_note s n).entries))
  where
    more : (more : List Entry) × ((leads (after_note s n) ns).entries ≡ (after_note s n).entries ++ more)
    more = leads_grows (after_note s n) ns

    first : At (after_note s n).entries i entry → IsNewBy s (n ∷ ns) i entry 0
    first here =
        let new = new_after s n.note.call n.note.reply n.payload i entry low here in
        let whole = leads_grows s (n ∷ ns) in record {
          note = n;
          at = refl;
          key = new.key;
          call = new.call_is;
          index = new.index;
          reply = new.reply_is;
          before = sym (ap (λ (k : ℕ). take k (leads s (n ∷ ns)).entries) new.last ∙ (ap (take (length s.entries)) whole.1 ∙ take_front s.entries whole.0));
          entry_is = new.entry_is;
        }

    by_place : (length (after_note s n).entries ≤ i → (p : ℕ) × IsNewBy (after_note s n) ns i entry p) → (i < length (after_note s n).entries) ⊎ (length (after_note s n).entries ≤ i) → (p : ℕ) × IsNewBy s (n ∷ ns) i entry p
    by_place further (inl below) =
        ⊎_elim (λ (h : At (after_note s n).entries i entry). (0, first h))
        (λ (h : (j : ℕ) × (At more.0 j entry × (i ≡ length (after_note s n).entries + j))). (let is = h.1.1 in absurd (omega arith)))
        (at_append (after_note s n).entries more.0 i entry (subst (λ (l : List Entry). At l i entry) more.1 at))
    by_place further (inr above) =
        let found = further above in
        let new = found.1 in
        (suc found.0, record { note = new.note; at = new.at; key = new.key; call = new.call; index = new.index; reply = new.reply; before = new.before; entry_is = new.entry_is })

-- ---- the notes of a seat that records

place_of : (number p q : ℕ) (story : List FullNote) (n : FullNote) → At story p n → is_own number n ≡ true → (r : ℕ) × At (places_from q number story) r (q + p)
place_of number p q [] n at own = absurd cc
place_of number zero q (m ∷ ms) n at own =
    let same : m ≡ n = cc in
    let test : is_own number m ≡ true = ap (is_own number) same ∙ own in
    let e : q ≡ q + 0 = omega arith in
    (0, (rw test (ap (λ (z : ℕ). Some z) e)))
place_of number (suc p) q (m ∷ ms) n at own = by_test (is_own number m) (subst (λ (z : ℕ). (r : ℕ) × At (places_from (q + 1) number ms) r z) e (place_of number p (q + 1) ms n at own))
  where
    e : q + 1 + p ≡ q + suc p
    e = omega arith

    by_test : (b : Bool) → (r : ℕ) × At (places_from (q + 1) number ms) r (q + suc p) → (r : ℕ) × At (if b then q ∷ places_from (q + 1) number ms else places_from (q + 1) number ms) r (q + suc p)
    by_test true further = (suc further.0, further.1)
    by_test false further = further

zip_back : {A B : Type 0} (R : A → B → Type 0) (xs : List A) (ys : List B) (i : ℕ) (y : B) → AllZip R xs ys → At ys i y → (x : A) × (At xs i x × R x y)
zip_back R xs [] i y all e = absurd cc
zip_back R [] (b ∷ bs) i y all e = absurd all
zip_back {A} {B} R (a ∷ rest) (b ∷ bs) zero y all e = let h : b ≡ y = cc in subst (λ (z : B). (x : A) × (At (a ∷ rest) 0 x × R x z)) h (a, (refl, all.0))
zip_back R (a ∷ rest) (b ∷ bs) (suc i) y all e = zip_back R rest bs i y all.1 e

module _ {Cause : Type 0} (origin : RecorderState) (story : List FullNote) (lines : List (Line Cause)) (threads : ℕ)
    (recorded : (thread : ℕ) → thread < threads → HasRecorded origin lines threads thread (thread + 1) story)
    (nobody_else : (p : ℕ) (n : FullNote) (key : Key) → At story p n → n.note.call ≡ Record key → (thread : ℕ) × (thread < threads) × (n.note.seat ≡ thread + 1)) where
  abbrev later : List Entry
  later = (leads origin story).entries

  -- an entry that a thread's call added
  of_thread : (i p : ℕ) (entry : Entry) → (new : IsNewBy origin story i entry p) → (thread : ℕ) → thread < threads → new.note.note.seat ≡ thread + 1 → IsOfLine lines later i entry
  of_thread i p entry new thread below seat =
      let has = recorded thread below in
      let records : is_record new.note.note.call ≡ true = ap is_record new.call in
      let seat_is : (new.note.note.seat == (thread + 1)) ≡ true = grind (arith, nat_tests) in
      let own : is_own (thread + 1) new.note ≡ true = rw (seat_is, records) refl in
      let place = place_of (thread + 1) p 0 story new.note new.at own in
      let called = zip_back (IsCallAt origin story (thread + 1)) has.calls (places_of (thread + 1) story) place.0 (0 + p) has.has place.1 in
      let call = called.0 in
      let known : IsCallAt origin story (thread + 1) call p = subst (IsCallAt origin story (thread + 1) call) (zero-add p) called.1.1 in
      let at_known = known.at in
      let at_new = new.at in
      let same : known.note ≡ new.note = cc in
      let calls : Record call.key ≡ Record new.key = sym known.call_is ∙ (ap (λ (n : FullNote). n.note.call) same ∙ new.call) in
      let key_is : call.key ≡ new.key = cc in
      let tied : IsTied (leads origin (take p story)).entries call.payload new.note = subst (IsTied (leads origin (take p story)).entries call.payload) same known.tied in
      let held : new.note.payload ≡ call.payload = subst (λ (r : RecordReply). IsTiedBy r (leads origin (take p story)).entries call.payload new.note.payload) new.reply tied in
      let given = mapped_at given_of has.calls place.0 call called.1.0 in
      let line = line_given 0 threads thread has.done place.0 (given_of call) (subst (λ (l : List Given). At l place.0 (given_of call)) has.given given) in
      record {
        line = line.0;
        key = call.key;
        payload = call.payload;
        at = subst (λ (l : List (Line Cause)). At l line.0 (read call.key call.payload)) (sym has.prefix) (at_front has.done has.rest line.0 (read call.key call.payload) line.1);
        entry_is = new.entry_is ∙ (ap (λ (es : List Entry). entry_of (end_of es) new.key new.note.payload) new.before ∙ (ap (λ (k : Key). entry_of (end_of (take i later)) k new.note.payload) (sym key_is) ∙ ap (entry_of (end_of (take i later)) call.key) held));
      }

  -- each entry that the story adds is that of a line
  pub story_adds : AreApart origin.entries later → AreAdded origin.entries lines later
  story_adds apart =
      let more = leads_grows origin story in record {
        added = more.0;
        grown = more.1;
        apart = apart;
        each = λ i entry low at.
            let new = new_by origin story i entry low at in
            let by = nobody_else new.0 new.1.note new.1.key new.1.at new.1.call in
            of_thread i new.0 entry new.1 by.0 by.1 by.2;
      }
