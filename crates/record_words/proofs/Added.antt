-- Where nothing is refused, what is added is what is fresh.
use Rattle.std.proofs.Common.{◌≡◌, ℕ, ◌+◌, ◌≤◌, Bool, true, false, ◌&&◌, ◌||◌, if◌then◌else◌, is_some, nat_lt, ◌==◌, bytes_eq, List, [], ◌∷◌, ◌++◌, length, Option, Some, None, refl, sym, ap, ◌∙◌, subst, arith}
use Rattle.std.proofs.lemmas.Bool.Decides.{nat_tests}
use Rattle.foz_words.specs.declared.key.Key.{Key}
use Rattle.foz_words.specs.Key.{is_key}
use Rattle.foz_entry.specs.declared.cut.Entry.{Entry}
use Rattle.foz_entry.specs.Entries.{end_of, entry_of}
use Rattle.foz_entry.specs.Limits.{count_limit, end_limit, payload_limit}
use Rattle.record_words.specs.declared.note.RecordReply.{RecordReply}
use Rattle.record_words.specs.declared.note.RecordReply.TheVariants.{New, Known, Collision, TooLarge, Full, TooMany}
use Rattle.record_words.specs.Entries.{payload_at, holds_key, holder}
use Rattle.record_words.specs.Recorder.{reply_of, reply_by, reply_unheld}
use Rattle.record_words.specs.Alone.{grown_by, after_record}
use Rattle.record_words.specs.Added.{Element, added_to, is_among, fresh_after, fresh, laid, Stays, AllStay}
use Rattle.record_words.proofs.Rows.{first_or, holder_push}
use Rattle.record_words.proofs.Holders.{key_same}
use Rattle.record_words.proofs.History.{entry_sound}

-- a reply that stays is the holder's, or a new entry
kept_if : (b : Bool) (size : ℕ) (r : RecordReply) → Stays (if b then TooLarge size else r) → (b ≡ false) × ((if b then TooLarge size else r) ≡ r)
kept_if true size r s = absurd s
kept_if false size r s = (refl, refl)

new_if : (a b : Bool) (x y n : ℕ) (z : ℕ) → Stays (if a then Full x y else (if b then TooMany z else New n)) → (if a then Full x y else (if b then TooMany z else New n)) ≡ New n
new_if true b x y n z s = absurd s
new_if false true x y n z s = absurd s
new_if false false x y n z s = refl

held_same : (b : Bool) (i : ℕ) (entries : List Entry) (key : Key) (p : List ℕ) → grown_by (if b then Known i else Collision i) entries key p ≡ entries
held_same true i entries key p = refl
held_same false i entries key p = refl

module _ (entries : List Entry) (key : Key) (p : List ℕ) (stays : Stays (reply_of entries key p)) where
  the_reply : (length p ≤ payload_limit) × (reply_of entries key p ≡ reply_by (holder key entries) entries p)
  unfolding reply_of
  the_reply = let k = kept_if (nat_lt payload_limit (length p)) (length p) (reply_by (holder key entries) entries p) stays in let t = k.0 in (grind (arith, nat_tests), k.1)

  grown_held : (i : ℕ) → holder key entries ≡ Some i → after_record entries key p ≡ entries
  grown_held i e = ap (λ (r : RecordReply). grown_by r entries key p) (the_reply.1 ∙ ap (λ (h : Option ℕ). reply_by h entries p) e) ∙ held_same (bytes_eq (payload_at entries i) p) i entries key p

  grown_free : holder key entries ≡ None → after_record entries key p ≡ entries ++ entry_of (end_of entries) key p ∷ []
  grown_free e =
      let is : reply_of entries key p ≡ reply_unheld entries p = the_reply.1 ∙ ap (λ (h : Option ℕ). reply_by h entries p) e in
      ap (λ (r : RecordReply). grown_by r entries key p) (is ∙ new_if (nat_lt end_limit (end_of entries + (56 + length p))) (length entries == count_limit) (end_of entries) (56 + length p) (length entries) (length entries) (subst Stays is stays))

-- the keys held are those held before and those of the elements so far
abbrev Holds : List Entry → List Key → List Entry → Type 0
Holds before earlier entries = (q : Key) → is_some (holder q entries) ≡ (is_some (holder q before) || is_among q earlier)

or_swap : (a b c : Bool) → (a || b) ≡ c → (r : Bool) → (r ≡ true → c ≡ true) → (a || (r || b)) ≡ c
or_swap true b c e r f = e
or_swap false b c e true f = sym (f refl)
or_swap false b c e false f = e

or_new : (a b r s : Bool) (o : Option ℕ) (n : ℕ) → is_some o ≡ (a || b) → s ≡ r → is_some (first_or o s n) ≡ (a || (r || b))
or_new true b r s (Some i) n e f = refl
or_new false b true s (Some i) n e f = refl
or_new false b false s (Some i) n e f = e
or_new true b r s None n e f = absurd cc
or_new false b true true None n e f = refl
or_new false b false false None n e f = e
or_new false b true false None n e f = absurd cc
or_new false b false true None n e f = absurd cc

module _ (before : List Entry) (earlier : List Key) (entries : List Entry) (e : Element) (es : List Element) (holds : Holds before earlier entries) (stay : AllStay entries (e ∷ es))
    (further : (later : List Entry) → Holds before (e.0 ∷ earlier) later → AllStay later es → added_to later es ≡ laid later (fresh_after before (e.0 ∷ earlier) es)) where
  abbrev rest : List Element
  rest = fresh_after before (e.0 ∷ earlier) es

  one_more : (h : Option ℕ) → holder e.0 entries ≡ h → added_to entries (e ∷ es) ≡ laid entries (fresh_after before earlier (e ∷ es))
  one_more (Some i) held =
      let same = grown_held entries e.0 e.1 stay.0 i held in
      let test : (is_some (holder e.0 before) || is_among e.0 earlier) ≡ true = sym (holds e.0) ∙ ap is_some held in
      let still : Holds before (e.0 ∷ earlier) entries = (λ q. sym (or_swap (is_some (holder q before)) (is_among q earlier) (is_some (holder q entries)) (sym (holds q)) (is_key q e.0)
      (λ t. subst (λ (z : Key). is_some (holder z entries) ≡ true) (sym (key_same q e.0 t)) (ap is_some held)))) in
      ap (λ (z : List Entry). added_to z es) same ∙ (further entries still (subst (λ (z : List Entry). AllStay z es) same stay.1)
      ∙ sym (ap (λ (b : Bool). laid entries (if b then rest else e ∷ rest)) test))
  one_more None free =
      let grown = grown_free entries e.0 e.1 stay.0 free in
      let entry = entry_of (end_of entries) e.0 e.1 in
      let test : (is_some (holder e.0 before) || is_among e.0 earlier) ≡ false = sym (holds e.0) ∙ ap is_some free in
      let sound = entry_sound (end_of entries) e.0 e.1 (the_reply entries e.0 e.1 stay.0).0 in
      let still : Holds before (e.0 ∷ earlier) (entries ++ entry ∷ []) = (λ q. ap is_some (holder_push q entries entry)
      ∙ or_new (is_some (holder q before)) (is_among q earlier) (is_key q e.0) (holds_key q entry) (holder q entries) (length entries) (holds q) (ap (λ (b : Bool). b && is_key q e.0) sound)) in
      ap (λ (z : List Entry). added_to z es) grown ∙ (further (entries ++ entry ∷ []) still (subst (λ (z : List Entry). AllStay z es) grown stay.1)
      ∙ sym (ap (λ (b : Bool). laid entries (if b then rest else e ∷ rest)) test))

added_after : (before : List Entry) (earlier : List Key) (entries : List Entry) (elements : List Element) → Holds before earlier entries → AllStay entries elements → added_to entries elements ≡ laid entries (fresh_after before earlier elements)
added_after before earlier entries [] holds stay = refl
added_after before earlier entries (e ∷ es) holds stay =
    one_more before earlier entries e es holds stay (λ later h s. added_after before (e.0 ∷ earlier) later es h s) (holder e.0 entries) refl

pub added_is_fresh : (before : List Entry) (elements : List Element) → AllStay before elements → added_to before elements ≡ laid before (fresh before elements)
added_is_fresh before elements stay = added_after before [] before elements (λ q. plain (is_some (holder q before))) stay
  where
    plain : (b : Bool) → b ≡ (b || false)
    plain true = refl
    plain false = refl
