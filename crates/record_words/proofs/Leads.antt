-- The states of a story.
use Rattle.std.proofs.Common.{◌≡◌, ◌≢◌, ℕ, suc, ◌<◌, ◌≤◌, ◌⊎◌, false, List, [], ◌∷◌, ◌++◌, length, take, refl, sym, ap, ◌∙◌, append_assoc, append-nil, length-append, inl, inr, eq-or-lt_of_le, arith}
use Rattle.std.proofs.lemmas.List.Elements.{All-head, All-tail}
use Rattle.foz_words.specs.declared.key.Key.{Key}
use Rattle.foz_entry.specs.declared.cut.Entry.{Entry}
use Rattle.foz_entry.specs.Entries.{end_of, entry_of}
use Rattle.record_words.specs.declared.note.FullNote.{FullNote}
use Rattle.record_words.specs.declared.note.RecordCall.{RecordCall}
use Rattle.record_words.specs.declared.note.RecordCall.TheVariants.{Record, Flush}
use Rattle.record_words.specs.declared.note.RecordReply.{RecordReply}
use Rattle.record_words.specs.declared.note.RecordReply.TheVariants.{New, Flushed, DiskFault}
use Rattle.record_words.specs.declared.state.RecorderState.{RecorderState}
use Rattle.record_words.specs.Recorder.{after}
use Rattle.record_words.specs.Story.{At, after_note, leads, HasNoFault}
use Rattle.record_words.proofs.Places.{take_next, take_more, take_rest}

pub leads_append : (s : RecorderState) (a b : List FullNote) → leads s (a ++ b) ≡ leads (leads s a) b
leads_append s [] b = refl
leads_append s (n ∷ ns) b = leads_append (after_note s n) ns b

-- a call adds at the end, if it adds
pub after_grows : (s : RecorderState) (call : RecordCall) (reply : RecordReply) (payload : List ℕ) → (rest : List Entry) × ((after s call reply payload).entries ≡ s.entries ++ rest)
after_grows s (Record key) (New i) payload = (entry_of (end_of s.entries) key payload ∷ [], refl)
after_grows s (Record key) reply payload = ([], sym (append-nil s.entries))
after_grows s Flush (Flushed count) payload = ([], sym (append-nil s.entries))
after_grows s Flush DiskFault payload = ([], sym (append-nil s.entries))
after_grows s Flush reply payload = ([], sym (append-nil s.entries))

pub leads_grows : (s : RecorderState) (story : List FullNote) → (rest : List Entry) × ((leads s story).entries ≡ s.entries ++ rest)
leads_grows s [] = ([], sym (append-nil s.entries))
leads_grows s (n ∷ ns) =
    let here = after_grows s n.note.call n.note.reply n.payload in
    let further = leads_grows (after_note s n) ns in
    (here.0 ++ further.0, further.1 ∙ (ap (λ (z : List Entry). z ++ further.0) here.1 ∙ append_assoc s.entries here.0 further.0))

-- from an earlier place to a later one
pub leads_later : (s : RecorderState) (story : List FullNote) (p q : ℕ) → p ≤ q → (rest : List Entry) × ((leads s (take q story)).entries ≡ (leads s (take p story)).entries ++ rest)
leads_later s story p q h =
    let more = take_more story p q h in
    let g = leads_grows (leads s (take p story)) more.0 in
    (g.0, ap (λ (z : List FullNote). (leads s z).entries) more.1 ∙ (ap (λ (z : RecorderState). z.entries) (leads_append s (take p story) more.0) ∙ g.1))

pub leads_whole : (s : RecorderState) (story : List FullNote) (p : ℕ) → (rest : List Entry) × ((leads s story).entries ≡ (leads s (take p story)).entries ++ rest)
leads_whole s story p =
    let more = take_rest story p in
    let g = leads_grows (leads s (take p story)) more.0 in
    (g.0, ap (λ (z : List FullNote). (leads s z).entries) more.1 ∙ (ap (λ (z : RecorderState). z.entries) (leads_append s (take p story) more.0) ∙ g.1))

-- the state after a note
pub leads_next : (s : RecorderState) (story : List FullNote) (p : ℕ) (n : FullNote) → At story p n → leads s (take (suc p) story) ≡ after_note (leads s (take p story)) n
leads_next s story p n at = ap (leads s) (take_next story p n at) ∙ leads_append s (take p story) (n ∷ [])

after_whole : (s : RecorderState) (call : RecordCall) (reply : RecordReply) (payload : List ℕ) → s.broken ≡ false → reply ≢ DiskFault → (after s call reply payload).broken ≡ false
after_whole s (Record key) (New i) payload w sound = w
after_whole s (Record key) reply payload w sound = w
after_whole s Flush (Flushed count) payload w sound = w
after_whole s Flush DiskFault payload w sound = absurd (sound refl)
after_whole s Flush reply payload w sound = w

pub leads_unbroken : (s : RecorderState) (story : List FullNote) → s.broken ≡ false → HasNoFault story → (leads s story).broken ≡ false
leads_unbroken s [] w sound = w
leads_unbroken s (n ∷ ns) w sound =
    leads_unbroken (after_note s n) ns (after_whole s n.note.call n.note.reply n.payload w (All-head (λ m. m.note.reply ≢ DiskFault) n ns sound)) (All-tail (λ m. m.note.reply ≢ DiskFault) n ns sound)

-- which note added an entry
pub record Adds (s : RecorderState) (story : List FullNote) (i place : ℕ) : Type 0 where
  pub note : FullNote
  pub at : At story place note
  pub key : Key
  pub index : ℕ
  pub call : note.note.call ≡ Record key
  pub reply : note.note.reply ≡ New index
  pub length_is : length (leads s (take place story)).entries ≡ i

module _ (s : RecorderState) (n : FullNote) (ns : List FullNote) (i : ℕ) (further : length (after_note s n).entries ≤ i → (place : ℕ) × Adds (after_note s n) ns i place) (low : length s.entries ≤ i) where
  added_later : length (after_note s n).entries ≤ i → (place : ℕ) × Adds s (n ∷ ns) i place
  added_later h = let a = further h in (suc a.0, record { note = a.1.note; at = a.1.at; key = a.1.key; index = a.1.index; call = a.1.call; reply = a.1.reply; length_is = a.1.length_is })

  added_same : (after_note s n).entries ≡ s.entries → (place : ℕ) × Adds s (n ∷ ns) i place
  added_same e = let l = ap length e in added_later (omega arith)

  added_new : (key : Key) (index : ℕ) → n.note.call ≡ Record key → n.note.reply ≡ New index → (length s.entries ≡ i) ⊎ (suc (length s.entries) ≤ i) → (place : ℕ) × Adds s (n ∷ ns) i place
  added_new key index c r (inl e) = (0, record { note = n; at = refl; key = key; index = index; call = c; reply = r; length_is = e })
  added_new key index c r (inr h) =
      let e : (after_note s n).entries ≡ s.entries ++ entry_of (end_of s.entries) key n.payload ∷ [] = ap (λ (z : RecordCall). (after s z n.note.reply n.payload).entries) c ∙ ap (λ (z : RecordReply). (after s (Record key) z n.payload).entries) r in
      let l = ap length e in
      let m = length-append s.entries (entry_of (end_of s.entries) key n.payload ∷ []) in
      added_later (omega arith)

  added_first : (call : RecordCall) (reply : RecordReply) → n.note.call ≡ call → n.note.reply ≡ reply → (place : ℕ) × Adds s (n ∷ ns) i place
  added_first (Record key) (New index) c r = added_new key index c r (eq-or-lt_of_le low)
  added_first (Record key) reply c r = added_same (ap (λ (z : RecordCall). (after s z n.note.reply n.payload).entries) c ∙ ap (λ (z : RecordReply). (after s (Record key) z n.payload).entries) r)
  added_first Flush (Flushed count) c r = added_same (ap (λ (z : RecordCall). (after s z n.note.reply n.payload).entries) c ∙ ap (λ (z : RecordReply). (after s Flush z n.payload).entries) r)
  added_first Flush DiskFault c r = added_same (ap (λ (z : RecordCall). (after s z n.note.reply n.payload).entries) c ∙ ap (λ (z : RecordReply). (after s Flush z n.payload).entries) r)
  added_first Flush reply c r = added_same (ap (λ (z : RecordCall). (after s z n.note.reply n.payload).entries) c ∙ ap (λ (z : RecordReply). (after s Flush z n.payload).entries) r)

-- an entry after the first ones was added by a note
pub added_by : (s : RecorderState) (story : List FullNote) (i : ℕ) → length s.entries ≤ i → i < length (leads s story).entries → (place : ℕ) × Adds s story i place
added_by s [] i low high = absurd (omega arith)
added_by s (n ∷ ns) i low high = added_first s n ns i (λ h. added_by (after_note s n) ns i h high) low n.note.call n.note.reply refl refl
