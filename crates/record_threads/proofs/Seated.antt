-- The calls of one seat in a story.
use Rattle.std.proofs.Common.{◌≡◌, ◌≢◌, ℕ, zero, suc, ◌+◌, ◌<◌, ◌≤◌, ◌==◌, ◌&&◌, Bool, true, false, if◌then◌else◌, All, List, [], ◌∷◌, ◌++◌, length, take, Some, refl, sym, ap, ◌∙◌, subst, append-nil, append_assoc, length-append, zero-add, arith}
use Rattle.std.specs.List.{AllZip}
use Rattle.std.proofs.lemmas.Bool.Decides.{nat_tests}
use Rattle.std.proofs.lemmas.List.Elements.{All-head, All-tail, filter-append}
use mathlib.Core.List.{IsPrefix}
use Rattle.foz_words.specs.declared.key.Key.{Key}
use Rattle.record_words.specs.declared.note.FullNote.{FullNote}
use Rattle.record_words.specs.declared.note.RecordCall.{RecordCall}
use Rattle.record_words.specs.declared.note.RecordCall.TheVariants.{Record, Flush}
use Rattle.record_words.specs.declared.note.RecordReply.{RecordReply}
use Rattle.record_words.specs.declared.state.RecorderState.{RecorderState}
use Rattle.record_words.specs.Story.{At, leads}
use Rattle.turn_desk.specs.declared.view.View.{View}
use Rattle.turn_desk.specs.Story.{Adds, notes_of}
use Rattle.record_dedup.specs.Kept.{Booked, recorder_of}
use Rattle.record_threads.specs.Ties.{IsTied, IsRecordNote, IsFlushNote}
use Rattle.record_threads.specs.Calls.{seat_of, HasNoted}
use Rattle.record_threads.specs.Threads.{Call, IsCallAt, HasCalls, is_own, is_record, places_from, places_of}
use Rattle.record_threads.proofs.Places.{at_below, at_here, at_front, take_front, take_within, zip_push, zip_map}

push_if : (b : Bool) (p : ℕ) (x y z : List ℕ) → x ≡ y ++ z → (if b then p ∷ x else x) ≡ (if b then p ∷ y else y) ++ z
push_if true p x y z e = ap (λ (l : List ℕ). p ∷ l) e
push_if false p x y z e = e

places_append_from : (p number : ℕ) (a b : List FullNote) → places_from p number (a ++ b) ≡ places_from p number a ++ places_from (p + length a) number b
places_append_from p number [] b = let e : p ≡ p + length {A = FullNote} [] = omega arith in ap (λ (z : ℕ). places_from z number b) e
places_append_from p number (n ∷ ns) b =
    let e : p + 1 + length ns ≡ p + length (n ∷ ns) = omega arith in
    push_if (is_own number n) p (places_from (p + 1) number (ns ++ b)) (places_from (p + 1) number ns) (places_from (p + length (n ∷ ns)) number b)
    (places_append_from (p + 1) number ns b ∙ ap (λ (z : ℕ). places_from (p + 1) number ns ++ places_from z number b) e)

places_append : (number : ℕ) (a b : List FullNote) → places_of number (a ++ b) ≡ places_of number a ++ places_from (length a) number b
places_append number a b = places_append_from 0 number a b ∙ ap (λ (z : ℕ). places_of number a ++ places_from z number b) (zero-add (length a))

-- notes of others have no places
places_others : (p number : ℕ) (notes : List FullNote) → All (λ n. n.note.seat ≢ number) notes → places_from p number notes ≡ []
places_others p number [] all = refl
places_others p number (n ∷ ns) all =
    let here : n.note.seat ≢ number = All-head (λ (m : FullNote). m.note.seat ≢ number) n ns all in
    let test : (n.note.seat == number) ≡ false = grind (arith, nat_tests) in
    rw test (places_others (p + 1) number ns (All-tail (λ (m : FullNote). m.note.seat ≢ number) n ns all))

places_nothing : (p number : ℕ) (notes : List FullNote) → notes_of seat_of number notes ≡ [] → places_from p number notes ≡ []
places_nothing p number [] none = refl
places_nothing p number (n ∷ ns) none = by_number (n.note.seat == number) refl none (λ e. places_nothing (p + 1) number ns e)
  where
    by_number : (b : Bool) → (n.note.seat == number) ≡ b → (if b then n ∷ notes_of seat_of number ns else notes_of seat_of number ns) ≡ [] → (notes_of seat_of number ns ≡ [] → places_from (p + 1) number ns ≡ [])
        → places_from p number (n ∷ ns) ≡ []
    by_number true t e rest = absurd cc
    by_number false t e rest = rw t (rest e)

module _ (origin : RecorderState) (number : ℕ) where
  call_stays : (story more : List FullNote) (call : Call) (place : ℕ) → IsCallAt origin story number call place → IsCallAt origin (story ++ more) number call place
  call_stays story more call place c =
      let below = at_below story place c.note c.at in record {
        note = c.note;
        at = at_front story more place c.note c.at;
        seat_is = c.seat_is;
        call_is = c.call_is;
        reply_is = c.reply_is;
        tied = subst (λ (z : List FullNote). IsTied (leads origin z).entries call.payload c.note) (sym (take_within story more place (omega arith))) c.tied;
      }

  pub no_calls : (story : List FullNote) → notes_of seat_of number story ≡ [] → HasCalls origin story number []
  no_calls story none = subst (AllZip (IsCallAt origin story number) []) (sym (places_nothing 0 number story none)) tt

  still_has : (story more : List FullNote) (calls : List Call) → places_from (length story) number more ≡ [] → HasCalls origin story number calls → HasCalls origin (story ++ more) number calls
  still_has story more calls none has =
      let places : places_of number (story ++ more) ≡ places_of number story = places_append number story more ∙ (ap (λ (z : List ℕ). places_of number story ++ z) none ∙ append-nil (places_of number story)) in
      subst (AllZip (IsCallAt origin (story ++ more) number) calls) (sym places)
      (zip_map (IsCallAt origin story number) (IsCallAt origin (story ++ more) number) (call_stays story more) calls (places_of number story) has)

  pub has_after_others : (story more : List FullNote) (calls : List Call) → All (λ n. n.note.seat ≢ number) more → HasCalls origin story number calls → HasCalls origin (story ++ more) number calls
  has_after_others story more calls others has = still_has story more calls (places_others (length story) number more others) has

  one_place : (place : ℕ) (n : FullNote) (b : Bool) → is_own number n ≡ b → places_from place number (n ∷ []) ≡ (if b then place ∷ [] else [])
  one_place place n b e = ap (λ (z : Bool). if z then place ∷ [] else []) e

  has_one_more : (story : List FullNote) (calls : List Call) (call : Call) (n : FullNote) → n.note.seat ≡ number → n.note.call ≡ Record call.key → n.note.reply ≡ call.reply → IsTied (leads origin story).entries call.payload n
      → HasCalls origin story number calls → HasCalls origin (story ++ n ∷ []) number (calls ++ call ∷ [])
  has_one_more story calls call n seat_is call_is reply_is tied has =
      let mine : (n.note.seat == number) ≡ true = grind (arith, nat_tests) in
      let own : is_own number n ≡ true = ap (λ (z : RecordCall). (n.note.seat == number) && is_record z) call_is ∙ (rw mine) in
      let places : places_of number (story ++ n ∷ []) ≡ places_of number story ++ length story ∷ [] = places_append number story (n ∷ []) ∙ ap (λ (z : List ℕ). places_of number story ++ z) (one_place (length story) n true own) in
      let here : IsCallAt origin (story ++ n ∷ []) number call (length story) = record {
        note = n;
        at = at_here story n [];
        seat_is = seat_is;
        call_is = call_is;
        reply_is = reply_is;
        tied = subst (λ (z : List FullNote). IsTied (leads origin z).entries call.payload n) (sym (take_front story (n ∷ []))) tied;
      } in
      subst (AllZip (IsCallAt origin (story ++ n ∷ []) number) (calls ++ call ∷ [])) (sym places)
      (zip_push (IsCallAt origin (story ++ n ∷ []) number) calls (places_of number story) call (length story)
      (zip_map (IsCallAt origin story number) (IsCallAt origin (story ++ n ∷ []) number) (call_stays story (n ∷ [])) calls (places_of number story) has) here)

  -- a flush has no place
  has_after_flush : (story : List FullNote) (calls : List Call) (n : FullNote) → n.note.call ≡ Flush → HasCalls origin story number calls → HasCalls origin (story ++ n ∷ []) number calls
  has_after_flush story calls n call_is has =
      let other : is_own number n ≡ false = ap (λ (z : RecordCall). (n.note.seat == number) && is_record z) call_is ∙ no_flush (n.note.seat == number) in
      still_has story (n ∷ []) calls (one_place (length story) n false other) has
    where
      no_flush : (b : Bool) → (b && false) ≡ false
      no_flush true = refl
      no_flush false = refl

  nothing_after : (a b : List FullNote) → a ++ b ≡ a → b ≡ []
  nothing_after a [] e = refl
  nothing_after a (x ∷ xs) e = let l = ap length e in let m = length-append a (x ∷ xs) in absurd (omega arith)

  -- a seat's calls in what it had seen are its calls in a story that has no more notes of it
  pub has_when_joined : (seen story : List FullNote) (calls : List Call) → IsPrefix seen story → notes_of seat_of number story ≡ notes_of seat_of number seen → HasCalls origin seen number calls → HasCalls origin story number calls
  has_when_joined seen story calls prefix same has =
      let more = prefix.0 in
      let cut : notes_of seat_of number seen ++ notes_of seat_of number more ≡ notes_of seat_of number seen = sym (filter-append (λ n. seat_of n == number) seen more) ∙ (ap (notes_of seat_of number) prefix.1 ∙ same) in
      let none = nothing_after (notes_of seat_of number seen) (notes_of seat_of number more) cut in
      subst (λ (z : List FullNote). HasCalls origin z number calls) prefix.1 (still_has seen more calls (places_nothing (length seen) number more none) has)

module _ {D : Type 0} (before later : View FullNote (Booked D)) (calls : List Call) where
  pub has_recorded : (key : Key) (payload : List ℕ) (reply : RecordReply) (origin : Booked D) → HasNoted before (IsRecordNote key payload reply) later → before.origin ≡ Some origin
      → HasCalls (recorder_of origin) before.seen before.number calls → HasCalls (recorder_of origin) later.seen before.number (calls ++ record { key = key; payload = payload; reply = reply } ∷ [])
  has_recorded key payload reply origin h is has =
      let same : h.origin ≡ origin = let e = sym h.origin_is ∙ is in cc in
      let front = before.seen ++ h.between in
      let note : IsRecordNote key payload reply (leads (recorder_of origin) front) h.note = subst (λ (z : Booked D). IsRecordNote key payload reply (leads (recorder_of z) front) h.note) same h.is_note in
      subst (λ (z : List FullNote). HasCalls (recorder_of origin) z before.number (calls ++ record { key = key; payload = payload; reply = reply } ∷ [])) (sym h.seen)
      (has_one_more (recorder_of origin) before.number front calls (record { key = key; payload = payload; reply = reply }) h.note h.seat_is note.records.call note.reply_is note.tied
      (has_after_others (recorder_of origin) before.number before.seen h.between calls h.others has))

  pub has_flushed : (reply : RecordReply) (origin : RecorderState) → HasNoted before (IsFlushNote reply) later → HasCalls origin before.seen before.number calls → HasCalls origin later.seen before.number calls
  has_flushed reply origin h has =
      subst (λ (z : List FullNote). HasCalls origin z before.number calls) (sym h.seen)
      (has_after_flush origin before.number (before.seen ++ h.between) calls h.note h.is_note.call (has_after_others origin before.number before.seen h.between calls h.others has))

  pub has_nothing_more : (origin : RecorderState) → Adds seat_of before [] later → HasCalls origin before.seen before.number calls → HasCalls origin later.seen before.number calls
  has_nothing_more origin a has =
      subst (λ (z : List FullNote). HasCalls origin z before.number calls) (sym (a.1 ∙ append-nil (before.seen ++ a.0))) (has_after_others origin before.number before.seen a.0 calls a.2 has)
