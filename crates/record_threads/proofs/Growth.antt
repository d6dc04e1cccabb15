-- One more note of a stored story.
use Rattle.std.proofs.Common.{◌≡◌, ℕ, zero, suc, ◌+◌, ◌<◌, ◌≤◌, Bool, true, false, if◌then◌else◌, nat_lt, ◌==◌, bytes_eq, All, MatchOption, List, [], ◌∷◌, ◌++◌, length, Option, Some, None, refl, sym, ap, ◌∙◌, subst, length-append, append-nil, arith}
use Rattle.std.proofs.lemmas.List.Elements.{All-nil, All-head, All-tail, All-push, All-weaker}
use Rattle.foz_words.specs.declared.key.Key.{Key}
use Rattle.foz_entry.specs.declared.cut.Entry.{Entry}
use Rattle.foz_entry.specs.Entries.{end_of, entry_of}
use Rattle.foz_entry.specs.Limits.{head_len, payload_limit, end_limit, count_limit}
use Rattle.record_words.specs.declared.note.FullNote.{FullNote}
use Rattle.record_words.specs.declared.note.RecordNote.{RecordNote}
use Rattle.record_words.specs.declared.note.RecordCall.{RecordCall}
use Rattle.record_words.specs.declared.note.RecordCall.TheVariants.{Record, Flush}
use Rattle.record_words.specs.declared.note.RecordReply.{RecordReply}
use Rattle.record_words.specs.declared.note.RecordReply.TheVariants.{New, Known, Collision, TooLarge, Full, TooMany, Flushed, DiskFault, Broken}
use Rattle.record_words.specs.declared.state.RecorderState.{RecorderState}
use Rattle.record_words.specs.Entries.{payload_at, holder}
use Rattle.record_words.specs.Recorder.{FlushReply, after, reply_of, reply_by, record_reply}
use Rattle.record_words.specs.Story.{after_note, leads, Legal, Answers, Records, payload_held}
use Rattle.record_dedup.specs.Kept.{Booked, recorder_of}
use Rattle.record_dedup.specs.Steps.{IsStep, IsFlushStep}
use Rattle.record_threads.specs.Ties.{IsRecordNote, IsFlushNote}
use Rattle.record_threads.specs.Shelves.{payload_of, full_note, full_story, IsWithin, LeadsTo, AreNotesOf, Shelved, IsNoted}
use Rattle.record_threads.proofs.Ties.{tied_of}

-- what the laws of recorders say: a story stays legal with one more answer, and a holder stands among the entries
abbrev pub LegalGoesOn : Type 0
LegalGoesOn = (origin : RecorderState) (story : List FullNote) (n : FullNote) → Legal origin story → Answers (leads origin story) n → Legal origin (story ++ n ∷ [])

abbrev pub HoldersStand : Type 0
HoldersStand = (key : Key) (entries : List Entry) (place : ℕ) → holder key entries ≡ Some place → place < length entries

leads_append : (s : RecorderState) (a b : List FullNote) → leads s (a ++ b) ≡ leads (leads s a) b
leads_append s [] b = refl
leads_append s (n ∷ ns) b = leads_append (after_note s n) ns b

payload_front : (entries more : List Entry) (i : ℕ) → i < length entries → payload_at (entries ++ more) i ≡ payload_at entries i
payload_front [] more i h = absurd (omega arith)
payload_front (x ∷ xs) more zero h = refl
payload_front (x ∷ xs) more (suc i) h = payload_front xs more i (omega arith)

payload_last : (entries : List Entry) (x : Entry) → payload_at (entries ++ x ∷ []) (length entries) ≡ x.payload
payload_last [] x = refl
payload_last (y ∷ ys) x = payload_last ys x

payload_stays : (entries more : List Entry) (reply : RecordReply) → IsWithin (length entries) reply → payload_of (entries ++ more) reply ≡ payload_of entries reply
payload_stays entries more (New i) h = payload_front entries more i h
payload_stays entries more (Known i) h = payload_front entries more i h
payload_stays entries more (Collision i) h = payload_front entries more i h
payload_stays entries more reply h = refl

-- the notes so far stay as they are
story_stays : (entries more : List Entry) (notes : List RecordNote) → All (λ n. IsWithin (length entries) n.reply) notes → full_story (entries ++ more) notes ≡ full_story entries notes
story_stays entries more [] h = refl
story_stays entries more (n ∷ ns) h =
    let first = payload_stays entries more n.reply (All-head (λ m. IsWithin (length entries) m.reply) n ns h) in
    let rest = story_stays entries more ns (All-tail (λ m. IsWithin (length entries) m.reply) n ns h) in
    λ i. record { note = n; payload = first i } ∷ rest i

within_more : (n m : ℕ) → n ≤ m → (reply : RecordReply) → IsWithin n reply → IsWithin m reply
within_more n m h (New i) w = omega arith
within_more n m h (Known i) w = omega arith
within_more n m h (Collision i) w = omega arith
within_more n m h reply w = w

story_push : (entries : List Entry) (notes : List RecordNote) (n : RecordNote) → full_story entries (notes ++ n ∷ []) ≡ full_story entries notes ++ full_note entries n ∷ []
story_push entries [] n = refl
story_push entries (x ∷ xs) n = ap (λ (z : List FullNote). full_note entries x ∷ z) (story_push entries xs n)

-- one more note, from a book to a later one
module _ {D : Type 0} (goes_on : LegalGoesOn) (origin book later : Booked D) (notes : List RecordNote) (note : RecordNote) (are : AreNotesOf origin book notes) (more : List Entry) (grown : later.entries ≡ book.entries ++ more) where
  abbrev next : FullNote
  next = full_note later.entries note

  pub story_more : full_story later.entries (notes ++ note ∷ []) ≡ full_story book.entries notes ++ next ∷ []
  story_more = story_push later.entries notes note ∙ ap (λ (z : List FullNote). z ++ next ∷ []) (ap (λ (z : List Entry). full_story z notes) grown ∙ story_stays book.entries more notes are.within)

  pub notes_more : IsWithin (length later.entries) note.reply → Answers (recorder_of book) next → after_note (recorder_of book) next ≡ recorder_of later → later.began ≡ book.began → later.opened ≡ book.opened
      → AreNotesOf origin later (notes ++ note ∷ [])
  notes_more within answers lands began opened =
      let longer = ap length grown in
      let sum = length-append book.entries more in
      let led = are.leads_to in record {
        within = All-push (λ n. IsWithin (length later.entries) n.reply) notes note (All-weaker (λ n. IsWithin (length book.entries) n.reply) (λ n. IsWithin (length later.entries) n.reply) (λ n w. within_more (length book.entries) (length later.entries) (omega arith) n.reply w) notes are.within) within;
        leads_to = record {
          legal = subst (Legal (recorder_of origin)) (sym story_more)
              (goes_on (recorder_of origin) (full_story book.entries notes) next led.legal (subst (λ (z : RecorderState). Answers z next) (sym led.leads_is) answers));
          leads_is = ap (leads (recorder_of origin)) story_more
              ∙ (leads_append (recorder_of origin) (full_story book.entries notes) (next ∷ [])
              ∙ (ap (λ (z : RecorderState). after_note z next) led.leads_is ∙ lands));
          began = began ∙ led.began;
          opened = opened ∙ led.opened;
        };
      }

-- where the index of a reply stands: a new one at the end, the others before
abbrev Stands : List Entry → RecordReply → Type 0
Stands entries (New i) = i ≡ length entries
Stands entries (Known i) = i < length entries
Stands entries (Collision i) = i < length entries
Stands entries reply = Unit {0}

stands_if : (entries : List Entry) (b : Bool) (x y : RecordReply) → Stands entries x → Stands entries y → Stands entries (if b then x else y)
stands_if entries true x y p q = p
stands_if entries false x y p q = q

stands_by : HoldersStand → (entries : List Entry) (key : Key) (p : List ℕ) (h : Option ℕ) → holder key entries ≡ h → Stands entries (reply_by h entries p)
stands_by holders entries key p None e =
    stands_if entries (nat_lt end_limit (end_of entries + (head_len + length p))) (Full (end_of entries) (head_len + length p)) _ tt
    (stands_if entries (length entries == count_limit) (TooMany (length entries)) (New (length entries)) tt refl)
stands_by holders entries key p (Some i) e = let below = holders key entries i e in stands_if entries (bytes_eq (payload_at entries i) p) (Known i) (Collision i) below below

stands_of : HoldersStand → (entries : List Entry) (key : Key) (p : List ℕ) → Stands entries (reply_of entries key p)
unfolding reply_of
stands_of holders entries key p = stands_if entries (nat_lt payload_limit (length p)) (TooLarge (length p)) _ tt (stands_by holders entries key p (holder key entries) refl)

stands : HoldersStand → (s : RecorderState) (key : Key) (p : List ℕ) → Stands s.entries (record_reply s key p)
stands holders s key p = stands_if s.entries s.broken Broken (reply_of s.entries key p) tt (stands_of holders s.entries key p)

within_after : (s : RecorderState) (key : Key) (p : List ℕ) (r : RecordReply) → Stands s.entries r → IsWithin (length (after s (Record key) r p).entries) r
within_after s key p (New i) h = let l = length-append s.entries (entry_of (end_of s.entries) key p ∷ []) in omega arith
within_after s key p (Known i) h = h
within_after s key p (Collision i) h = h
within_after s key p reply h = tt

payload_after : (s : RecorderState) (key : Key) (p : List ℕ) (r : RecordReply) → Stands s.entries r → payload_of (after s (Record key) r p).entries r ≡ payload_held s.entries p r
payload_after s key p (New i) h = ap (payload_at (s.entries ++ entry_of (end_of s.entries) key p ∷ [])) h ∙ payload_last s.entries (entry_of (end_of s.entries) key p)
payload_after s key p (Known i) h = refl
payload_after s key p (Collision i) h = refl
payload_after s key p reply h = refl

after_held : (s : RecorderState) (key : Key) (p : List ℕ) (r : RecordReply) → after s (Record key) r (payload_held s.entries p r) ≡ after s (Record key) r p
after_held s key p (New i) = refl
after_held s key p reply = refl

grows : (s : RecorderState) (key : Key) (p : List ℕ) (r : RecordReply) → (more : List Entry) × ((after s (Record key) r p).entries ≡ s.entries ++ more)
grows s key p (New i) = (entry_of (end_of s.entries) key p ∷ [], refl)
grows s key p reply = ([], sym (append-nil s.entries))

-- what a call leaves of a shelf
pub record Leaves {D : Type 0} (origin book later : Booked D) (notes after_notes : List RecordNote) (seat : ℕ) (IsNote : RecorderState → FullNote → Type 0) : Type 0 where
  pub are : AreNotesOf origin later after_notes
  pub noted : IsNoted (record { origin = origin; story = full_story book.entries notes; book = book }) seat IsNote (record { origin = origin; story = full_story later.entries after_notes; book = later })

-- a call that records
module _ {D : Type 0} (goes_on : LegalGoesOn) (holders : HoldersStand) (origin book later : Booked D) (notes : List RecordNote) (are : AreNotesOf origin book notes) (key : Key) (p : List ℕ) (seat : ℕ) (told : RecordReply)
    (step : IsStep (recorder_of book) key p (Some told) (recorder_of later)) (rest : later ≡ record book { entries = later.entries }) where
  abbrev s : RecorderState
  s = recorder_of book

  abbrev the_note : RecordNote
  the_note = record { seat = seat; call = Record key; reply = told }

  stands_told : Stands s.entries told
  stands_told = subst (Stands s.entries) (sym step.0) (stands holders s key p)

  entries_are : later.entries ≡ (after s (Record key) told p).entries
  entries_are = ap (λ (z : RecorderState). z.entries) step.1

  held : payload_of later.entries told ≡ payload_held s.entries p told
  held = ap (λ (z : List Entry). payload_of z told) entries_are ∙ payload_after s key p told stands_told

  records : Records s key p (full_note later.entries the_note)
  records = record { call = refl; reply = step.0; payload = held }

  pub recorded : (after_notes : List RecordNote) → after_notes ≡ notes ++ the_note ∷ [] → Leaves origin book later notes after_notes seat (IsRecordNote key p told)
  recorded after_notes is =
      let g = grows s key p told in
      let grown : later.entries ≡ book.entries ++ g.0 = entries_are ∙ g.1 in
      let n = full_note later.entries the_note in
      let within : IsWithin (length later.entries) told = subst (λ (z : List Entry). IsWithin (length z) told) (sym entries_are) (within_after s key p told stands_told) in
      let lands : after_note s n ≡ recorder_of later = ap (after s (Record key) told) held ∙ (after_held s key p told ∙ sym step.1) in
      subst (λ (z : List RecordNote). Leaves origin book later notes z seat (IsRecordNote key p told)) (sym is) record {
        are = notes_more goes_on origin book later notes the_note are g.0 grown within (p, records) lands (ap (λ (z : Booked D). z.began) rest) (ap (λ (z : Booked D). z.opened) rest);
        noted = record {
          note = n;
          story = story_more goes_on origin book later notes the_note are g.0 grown;
          seat_is = refl;
          is_note = subst (λ (z : RecorderState). IsRecordNote key p told z n) (sym are.leads_to.leads_is) record { reply_is = refl; records = records; tied = tied_of s key p n records };
        };
      }

flush_within : (s : RecorderState) (r : RecordReply) (m : ℕ) → FlushReply s r → IsWithin m r
flush_within s (Flushed count) m h = tt
flush_within s DiskFault m h = tt
flush_within s Broken m h = tt
flush_within s (New i) m h = absurd h
flush_within s (Known i) m h = absurd h
flush_within s (Collision i) m h = absurd h
flush_within s reply m h = absurd h

flush_payload : (s : RecorderState) (r : RecordReply) (entries : List Entry) → FlushReply s r → payload_of entries r ≡ []
flush_payload s (Flushed count) entries h = refl
flush_payload s DiskFault entries h = refl
flush_payload s Broken entries h = refl
flush_payload s (New i) entries h = absurd h
flush_payload s (Known i) entries h = absurd h
flush_payload s (Collision i) entries h = absurd h
flush_payload s reply entries h = absurd h

-- a flush
module _ {D : Type 0} (goes_on : LegalGoesOn) (origin book later : Booked D) (notes : List RecordNote) (are : AreNotesOf origin book notes) (seat : ℕ) (told : RecordReply)
    (step : IsFlushStep (recorder_of book) (Some told) (recorder_of later)) (entries : later.entries ≡ book.entries) (rest : (later.began ≡ book.began) × (later.opened ≡ book.opened)) where
  abbrev flush_note : RecordNote
  flush_note = record { seat = seat; call = Flush; reply = told }

  pub flushed : (after_notes : List RecordNote) → after_notes ≡ notes ++ flush_note ∷ [] → Leaves origin book later notes after_notes seat (IsFlushNote told)
  flushed after_notes is =
      let b = recorder_of book in
      let n = full_note later.entries flush_note in
      let grown : later.entries ≡ book.entries ++ [] = entries ∙ sym (append-nil book.entries) in
      let none : payload_of later.entries told ≡ [] = flush_payload b told later.entries step.0 in
      let lands : after_note b n ≡ recorder_of later = ap (after b Flush told) none ∙ sym step.1 in
      subst (λ (z : List RecordNote). Leaves origin book later notes z seat (IsFlushNote told)) (sym is) record {
        are = notes_more goes_on origin book later notes flush_note are [] grown (flush_within b told (length later.entries) step.0) step.0 lands rest.0 rest.1;
        noted = record {
          note = n;
          story = story_more goes_on origin book later notes flush_note are [] grown;
          seat_is = refl;
          is_note = subst (λ (z : RecorderState). IsFlushNote told z n) (sym are.leads_to.leads_is) record { reply_is = refl; call = refl; flushes = step.0; payload = none };
        };
      }

-- a story that begins here
pub notes_none : {D : Type 0} (book : Booked D) (notes : List RecordNote) → notes ≡ [] → AreNotesOf book book notes
notes_none book notes none = subst (AreNotesOf book book) (sym none)
    record { within = All-nil (λ (n : RecordNote). IsWithin (length book.entries) n.reply); leads_to = record { legal = λ before n rest e. absurd (empty before n rest e); leads_is = refl; began = refl; opened = refl } }
  where
    empty : (before : List FullNote) (n : FullNote) (rest : List FullNote) → [] ≡ before ++ n ∷ rest → ⊥
    empty [] n rest e = cc
    empty (x ∷ xs) n rest e = cc
