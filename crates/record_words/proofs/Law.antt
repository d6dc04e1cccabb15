-- A story in which each line has its call makes a record of the lines.
use Rattle.std.proofs.Common.{◌≡◌, ◌≢◌, ℕ, zero, suc, ◌+◌, ◌%◌, ◌<◌, ◌≤◌, ◌⊎◌, Bool, true, false, if◌then◌else◌, nat_lt, ◌==◌, bytes_eq, List, [], ◌∷◌, ◌++◌, length, take, Option, Some, None, refl, sym, ap, ◌∙◌, subst, append_assoc, length-append, inl, inr, ⊎_elim, mod-lt, arith}
use Rattle.std.specs.List.{AllZip}
use Rattle.std.proofs.lemmas.List.Elements.{All-take}
use Rattle.foz_words.specs.declared.key.Key.{Key}
use Rattle.foz_entry.specs.declared.cut.Entry.{Entry}
use Rattle.foz_entry.specs.Entries.{end_of, entry_of}
use Rattle.foz_entry.specs.Limits.{count_limit, end_limit, payload_limit}
use Rattle.record_words.specs.declared.note.FullNote.{FullNote}
use Rattle.record_words.specs.declared.note.RecordCall.{RecordCall}
use Rattle.record_words.specs.declared.note.RecordCall.TheVariants.{Record}
use Rattle.record_words.specs.declared.note.RecordReply.{RecordReply}
use Rattle.record_words.specs.declared.note.RecordReply.TheVariants.{New, DiskFault, Broken}
use Rattle.record_words.specs.Entries.{payload_at, holder}
use Rattle.record_words.specs.declared.state.RecorderState.{RecorderState}
use Rattle.record_words.specs.Recorder.{after, reply_of, reply_by, reply_unheld}
use Rattle.record_words.specs.Story.{At, leads, Records, payload_held}
use Rattle.record_words.specs.Recorded.{Line, Answer, skipped, refused, read, replied, IsAnswered, IsReplyAt, AreAnswers}
use Rattle.record_words.specs.Placed.{TellsEachLine, answers_by, answers_told}
use Rattle.record_words.proofs.Places.{at_one, take_front, at_here}
use Rattle.record_words.proofs.Leads.{leads_grows, leads_later, leads_whole, leads_next, leads_unbroken, added_by}

-- a new entry comes at the end
by_test : (b : Bool) (x y : RecordReply) (i : ℕ) → (if b then x else y) ≡ New i → x ≢ New i → y ≡ New i
by_test true x y i e other = absurd (other e)
by_test false x y i e other = e

new_unheld : (entries : List Entry) (payload : List ℕ) (i : ℕ) → reply_unheld entries payload ≡ New i → i ≡ length entries
new_unheld entries payload i e =
    let second = by_test (nat_lt end_limit (end_of entries + (56 + length payload))) _ _ i e (λ h. cc) in
    let third = by_test (length entries == count_limit) _ _ i second (λ h. cc) in
    cc

by_holder : (h : Option ℕ) (entries : List Entry) (payload : List ℕ) (i : ℕ) → reply_by h entries payload ≡ New i → (h ≡ None) × (i ≡ length entries)
by_holder None entries payload i e = (refl, new_unheld entries payload i e)
by_holder (Some k) entries payload i e = let last = by_test (bytes_eq (payload_at entries k) payload) _ _ i e (λ h. cc) in absurd cc

pub new_index : (entries : List Entry) (key : Key) (payload : List ℕ) (i : ℕ) → reply_of entries key payload ≡ New i → (holder key entries ≡ None) × (i ≡ length entries)
unfolding reply_of
new_index entries key payload i e = by_holder (holder key entries) entries payload i (by_test (nat_lt payload_limit (length payload)) _ _ i e (λ h. cc))

module _ {Cause : Type 0} (reply_at : Key → List ℕ → ℕ → RecordReply) (cut : ℕ → ℕ) where
  all_answered : (before later : List Entry) (place : ℕ → ℕ) (lines : List (Line Cause))
      → ((k : ℕ) (key : Key) (payload : List ℕ) → At lines k (read key payload) → IsReplyAt before later key payload (reply_at key payload (place k)) (cut (place k)))
      → AllZip (IsAnswered before later) lines (answers_by reply_at cut place lines)
  unfolding answers_by
  all_answered before later place [] h = tt
  all_answered before later place (skipped ∷ lines) h = (tt, all_answered before later (λ k. place (suc k)) lines (λ k. h (suc k)))
  all_answered before later place (refused cause ∷ lines) h = (refl, all_answered before later (λ k. place (suc k)) lines (λ k. h (suc k)))
  all_answered before later place (read key payload ∷ lines) h = (h 0 key payload refl, all_answered before later (λ k. place (suc k)) lines (λ k. h (suc k)))

  -- a reply is that of a line that is read
  record IsOfLine (place : ℕ → ℕ) (lines : List (Line Cause)) (k : ℕ) (reply : RecordReply) (n : ℕ) : Type 0 where
    pub key : Key
    pub payload : List ℕ
    pub line : At lines k (read key payload)
    pub reply_is : reply ≡ reply_at key payload (place k)
    pub cut_is : n ≡ cut (place k)

  line_of : (place : ℕ → ℕ) (lines : List (Line Cause)) (k : ℕ) (reply : RecordReply) (n : ℕ) → At (answers_by reply_at cut place lines) k (replied reply n) → IsOfLine place lines k reply n
  unfolding answers_by
  line_of place [] k reply n e = absurd cc
  line_of place (skipped ∷ lines) zero reply n e = absurd cc
  line_of place (refused cause ∷ lines) zero reply n e = absurd cc
  line_of place (read key payload ∷ lines) zero reply n e = record { key = key; payload = payload; line = refl; reply_is = cc; cut_is = cc }
  line_of place (skipped ∷ lines) (suc k) reply n e = let h = line_of (λ k. place (suc k)) lines k reply n e in record { key = h.key; payload = h.payload; line = h.line; reply_is = h.reply_is; cut_is = h.cut_is }
  line_of place (refused cause ∷ lines) (suc k) reply n e = let h = line_of (λ k. place (suc k)) lines k reply n e in record { key = h.key; payload = h.payload; line = h.line; reply_is = h.reply_is; cut_is = h.cut_is }
  line_of place (read key payload ∷ lines) (suc k) reply n e = let h = line_of (λ k. place (suc k)) lines k reply n e in record { key = h.key; payload = h.payload; line = h.line; reply_is = h.reply_is; cut_is = h.cut_is }

  answer_of : (place : ℕ → ℕ) (lines : List (Line Cause)) (k : ℕ) (key : Key) (payload : List ℕ) → At lines k (read key payload) → At (answers_by reply_at cut place lines) k (replied (reply_at key payload (place k)) (cut (place k)))
  unfolding answers_by
  answer_of place [] k key payload e = absurd cc
  answer_of place (skipped ∷ lines) zero key payload e = absurd cc
  answer_of place (refused cause ∷ lines) zero key payload e = absurd cc
  answer_of place (read a p ∷ lines) zero key payload e = let h : a ≡ key = cc in let q : p ≡ payload = cc in cc
  answer_of place (skipped ∷ lines) (suc k) key payload e = answer_of (λ k. place (suc k)) lines k key payload e
  answer_of place (refused cause ∷ lines) (suc k) key payload e = answer_of (λ k. place (suc k)) lines k key payload e
  answer_of place (read a p ∷ lines) (suc k) key payload e = answer_of (λ k. place (suc k)) lines k key payload e

module _ {Cause : Type 0} (origin : RecorderState) (story : List FullNote) (lines : List (Line Cause)) (threads : ℕ) (seat place : ℕ → ℕ) (given : TellsEachLine origin story lines threads seat place) where
  abbrev entries_at : ℕ → List Entry
  entries_at p = (leads origin (take p story)).entries

  abbrev later : List Entry
  later = (leads origin story).entries

  abbrev the_reply : Key → List ℕ → ℕ → RecordReply
  the_reply key payload p = reply_of (entries_at p) key payload

  abbrev the_cut : ℕ → ℕ
  the_cut p = length (entries_at p)

  unbroken : (p : ℕ) → (leads origin (take p story)).broken ≡ false
  unbroken p = leads_unbroken origin (take p story) given.whole (All-take (λ n. n.note.reply ≢ DiskFault) p story given.no_fault)

  the_note : (p : ℕ) (key : Key) (payload : List ℕ) (n : FullNote) → Records (leads origin (take p story)) key payload n → n.note.reply ≡ the_reply key payload p
  the_note p key payload n r = r.reply ∙ ap (λ (b : Bool). if b then Broken else reply_of (entries_at p) key payload) (unbroken p)

  -- the entries after a new note
  entries_next : (p : ℕ) (key : Key) (payload : List ℕ) (i : ℕ) (n : FullNote) → At story p n → Records (leads origin (take p story)) key payload n → the_reply key payload p ≡ New i
      → entries_at (suc p) ≡ entries_at p ++ entry_of (end_of (entries_at p)) key payload ∷ []
  entries_next p key payload i n at r e =
      let s = leads origin (take p story) in
      let is : n.note.reply ≡ New i = the_note p key payload n r ∙ e in
      let held : n.payload ≡ payload = r.payload ∙ ap (payload_held s.entries payload) is in
      ap (λ (z : RecorderState). z.entries) (leads_next origin story p n at)
      ∙ (ap (λ (z : RecordCall). (after s z n.note.reply n.payload).entries) r.call
      ∙ (ap (λ (z : RecordReply). (after s (Record key) z n.payload).entries) is
      ∙ ap (λ (z : List ℕ). s.entries ++ entry_of (end_of s.entries) key z ∷ []) held))

  cut_rises : (p q : ℕ) → p ≤ q → the_cut p ≤ the_cut q
  cut_rises p q h = let m = leads_later origin story p q h in let l = ap length m.1 in let a = length-append (entries_at p) m.0 in omega arith

  -- after a new note the cut is greater
  cut_above : (p q : ℕ) (key : Key) (payload : List ℕ) (i : ℕ) (n : FullNote) → At story p n → Records (leads origin (take p story)) key payload n → the_reply key payload p ≡ New i → p < q → the_cut p < the_cut q
  cut_above p q key payload i n at r e h =
      let next = ap length (entries_next p key payload i n at r e) in
      let a = length-append (entries_at p) (entry_of (end_of (entries_at p)) key payload ∷ []) in
      let up = cut_rises (suc p) q (omega arith) in
      omega arith

  cut_taken : (p : ℕ) → take (the_cut p) later ≡ entries_at p
  cut_taken p = let w = leads_whole origin story p in ap (take (the_cut p)) w.1 ∙ take_front (entries_at p) w.0

  reply_there : (k : ℕ) (key : Key) (payload : List ℕ) → At lines k (read key payload) → IsReplyAt origin.entries later key payload (the_reply key payload (place k)) (the_cut (place k))
  reply_there k key payload at =
      let c = given.placed.calls k key payload at in
      let p = place k in
      let low = leads_grows origin (take p story) in
      let high = leads_whole origin story p in
      let low_length = ap length low.1 in
      let low_sum = length-append origin.entries low.0 in
      let high_length = ap length high.1 in
      let high_sum = length-append (entries_at p) high.0 in record {
        from = omega arith;
        upto = omega arith;
        reply_is = ap (λ (z : List Entry). reply_of z key payload) (sym (cut_taken p));
        added = λ i e.
            let next = entries_next p key payload i c.note c.at c.records e in
            let rest = leads_whole origin story (suc p) in
            let entry = entry_of (end_of (entries_at p)) key payload in
            let spelled : later ≡ entries_at p ++ entry ∷ rest.0 = rest.1 ∙ (ap (λ (z : List Entry). z ++ rest.0) next ∙ append_assoc (entries_at p) (entry ∷ []) rest.0) in
            let there : At later (the_cut p) entry = subst (λ (z : List Entry). At z (the_cut p) entry) (sym spelled) (at_here (entries_at p) entry rest.0) in
            ((new_index (entries_at p) key payload i e).1, subst (λ (z : List Entry). At later (the_cut p) (entry_of (end_of z) key payload)) (sym (cut_taken p)) there);
      }

  abbrev the_answers : List (Answer Cause)
  the_answers = answers_told origin story lines place

  in_order : (j k : ℕ) (a b : RecordReply) (m n : ℕ) → j < k → j % threads ≡ k % threads → At the_answers j (replied a m) → At the_answers k (replied b n) → (m ≤ n) × (a ≡ New m → m < n)
  unfolding answers_told
  in_order j k a b m n before same at_j at_k =
      let x = line_of the_reply the_cut place lines j a m at_j in
      let y = line_of the_reply the_cut place lines k b n at_k in
      let rises : place j < place k = given.placed.rising j k x.key y.key x.payload y.payload before same x.line y.line in
      let c = given.placed.calls j x.key x.payload x.line in
      let up = cut_rises (place j) (place k) (omega arith) in
      let p = x.cut_is in
      let q = y.cut_is in (
        omega arith,
        λ is. let above = cut_above (place j) (place k) x.key x.payload m c.note c.at c.records (sym x.reply_is ∙ is) rises in omega arith,
      )

  below_or : (a b : ℕ) → (a < b) ⊎ ((a ≡ b) ⊎ (b < a))
  below_or zero zero = inr (inl refl)
  below_or zero (suc b) = inl (omega arith)
  below_or (suc a) zero = inr (inr (omega arith))
  below_or (suc a) (suc b) = ⊎_elim (λ (h : a < b). inl (omega arith)) (λ (r : (a ≡ b) ⊎ (b < a)). inr (⊎_elim (λ (e : a ≡ b). inl (ap suc e)) (λ (h : b < a). inr (omega arith)) r)) (below_or a b)

  -- two lines with one call are one line
  same_line : (j k : ℕ) (a b : Key) (p q : List ℕ) → At lines j (read a p) → At lines k (read b q) → place j ≡ place k → j ≡ k
  same_line j k a b p q at_j at_k e =
      let x = given.placed.calls j a p at_j in
      let y = given.placed.calls k b q at_k in
      let there : At story (place j) y.note = subst (λ (z : ℕ). At story z y.note) (sym e) y.at in
      let one : x.note ≡ y.note = at_one story (place j) x.note y.note x.at there in
      let seats : seat (j % threads) ≡ seat (k % threads) = sym x.seat ∙ (ap (λ (z : FullNote). z.note.seat) one ∙ y.seat) in
      let thread : j % threads ≡ k % threads = given.distinct (j % threads) (k % threads) (mod-lt j given.some) (mod-lt k given.some) seats in
      ⊎_elim (λ (h : j < k). let r = given.placed.rising j k a b p q h thread at_j at_k in absurd (omega arith))
      (⊎_elim (λ (h : j ≡ k). h) (λ (h : k < j). let r = given.placed.rising k j b a q p h (sym thread) at_k at_j in absurd (omega arith)))
      (below_or j k)

  -- two new entries of one index have one call
  same_place : (j k : ℕ) (a b : Key) (p q : List ℕ) (i : ℕ) → At lines j (read a p) → At lines k (read b q) → the_reply a p (place j) ≡ New i → the_reply b q (place k) ≡ New i → the_cut (place j) ≡ i → the_cut (place k) ≡ i → place j ≡ place k
  same_place j k a b p q i at_j at_k new_j new_k cut_j cut_k =
      let x = given.placed.calls j a p at_j in
      let y = given.placed.calls k b q at_k in
      ⊎_elim (λ (h : place j < place k). let r = cut_above (place j) (place k) a p i x.note x.at x.records new_j h in absurd (omega arith))
      (⊎_elim (λ (h : place j ≡ place k). h) (λ (h : place k < place j). let r = cut_above (place k) (place j) b q i y.note y.at y.records new_k h in absurd (omega arith)))
      (below_or (place j) (place k))

  once : (i : ℕ) → length origin.entries ≤ i → i < length later → (k : ℕ) × (At the_answers k (replied (New i) i) × ((j : ℕ) → At the_answers j (replied (New i) i) → j ≡ k))
  unfolding answers_told
  once i low high =
      let found = added_by origin story i low high in
      let p = found.0 in
      let adds = found.1 in
      let call = given.placed.every p adds.note adds.key adds.at adds.call in
      let k = call.0 in
      let line = call.3.0 in
      let c = given.placed.calls k call.1 call.2 line in
      let there : At story (place k) adds.note = subst (λ (z : ℕ). At story z adds.note) (sym call.3.1) adds.at in
      let one : c.note ≡ adds.note = at_one story (place k) c.note adds.note c.at there in
      let cut : the_cut (place k) ≡ i = ap the_cut call.3.1 ∙ adds.length_is in
      let new : the_reply call.1 call.2 (place k) ≡ New adds.index = sym (the_note (place k) call.1 call.2 c.note c.records) ∙ (ap (λ (z : FullNote). z.note.reply) one ∙ adds.reply) in
      let index : adds.index ≡ i = (new_index (entries_at (place k)) call.1 call.2 adds.index new).1 ∙ cut in
      let new_i : the_reply call.1 call.2 (place k) ≡ New i = new ∙ ap New index in
      let answer = answer_of the_reply the_cut place lines k call.1 call.2 line in (
        k,
        (
          subst (λ (z : RecordReply). At (answers_by the_reply the_cut place lines) k (replied z i)) new_i (subst (λ (z : ℕ). At (answers_by the_reply the_cut place lines) k (replied (the_reply call.1 call.2 (place k)) z)) cut answer),
          λ j at_j. let x = line_of the_reply the_cut place lines j (New i) i at_j in same_line j k x.key call.1 x.payload call.2 x.line line (same_place j k x.key call.1 x.payload call.2 i x.line line (sym x.reply_is) new_i (sym x.cut_is) cut),
        ),
      )

  pub answered : AreAnswers origin.entries lines threads later the_answers
  unfolding answers_told
  answered =
      let grown = leads_grows origin story in record {
        added = grown.0;
        grown = grown.1;
        each = all_answered the_reply the_cut origin.entries later place lines reply_there;
        in_order = in_order;
        once = once;
      }

  -- each answer has the reply of the line's own call
  pub told_by_note : (k : ℕ) (key : Key) (payload : List ℕ) (at : At lines k (read key payload)) → At the_answers k (replied (given.placed.calls k key payload at).note.note.reply (the_cut (place k)))
  unfolding answers_told
  told_by_note k key payload at =
      let c = given.placed.calls k key payload at in
      subst (λ (z : RecordReply). At (answers_by the_reply the_cut place lines) k (replied z (the_cut (place k)))) (sym (the_note (place k) key payload c.note c.records)) (answer_of the_reply the_cut place lines k key payload at)
