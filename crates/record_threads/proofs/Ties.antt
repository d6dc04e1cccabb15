-- What a call's note tells of the payload that was given.
use Rattle.std.proofs.Common.{◌≡◌, ◌≢◌, ℕ, ◌+◌, ◌<◌, ◌≤◌, Bool, true, false, if◌then◌else◌, nat_lt, ◌==◌, bytes_eq, List, [], length, Option, Some, None, refl, sym, ap, ◌∙◌, subst, arith}
use Rattle.std.proofs.lemmas.Bool.{false_from_ne_true}
use Rattle.std.proofs.lemmas.Bool.Decides.{nat_tests}
use Rattle.std.proofs.lemmas.Slice.Eq.{bytes_eq-Decides}
use Rattle.foz_words.specs.declared.key.Key.{Key}
use Rattle.foz_entry.specs.declared.cut.Entry.{Entry}
use Rattle.foz_entry.specs.Entries.{end_of}
use Rattle.foz_entry.specs.Limits.{head_len, payload_limit, end_limit, count_limit}
use Rattle.record_words.specs.declared.note.FullNote.{FullNote}
use Rattle.record_words.specs.declared.note.RecordCall.{RecordCall}
use Rattle.record_words.specs.declared.note.RecordCall.TheVariants.{Record}
use Rattle.record_words.specs.declared.note.RecordReply.{RecordReply}
use Rattle.record_words.specs.declared.note.RecordReply.TheVariants.{New, Known, Collision, TooLarge, Full, TooMany, Broken}
use Rattle.record_words.specs.declared.state.RecorderState.{RecorderState}
use Rattle.record_words.specs.Entries.{holder, payload_at}
use Rattle.record_words.specs.Recorder.{reply_of, reply_by, record_reply}
use Rattle.record_words.specs.Story.{Answers, AnswersCall, Records, payload_held}
use Rattle.record_threads.specs.Ties.{IsTied, IsTiedBy}

-- a reply by a test
by_test : (P : RecordReply → Type 0) (b : Bool) (x y : RecordReply) → (b ≡ true → P x) → (b ≡ false → P y) → P (if b then x else y)
by_test P true x y p q = p refl
by_test P false x y p q = q refl

module _ (entries : List Entry) (key : Key) (given : List ℕ) where
  abbrev Tied : RecordReply → Type 0
  Tied reply = IsTiedBy reply entries given (payload_held entries given reply)

  tied_by : (h : Option ℕ) → length given ≤ payload_limit → Tied (reply_by h entries given)
  tied_by (Some i) fits = by_test Tied (bytes_eq (payload_at entries i) given) (Known i) (Collision i)
      (λ t. (bytes_eq-Decides (payload_at entries i) given).0 t)
      (λ f. ((λ same. let t = (bytes_eq-Decides (payload_at entries i) given).1 same in cc), fits))
  tied_by None fits = by_test Tied (nat_lt end_limit (end_of entries + (head_len + length given))) (Full (end_of entries) (head_len + length given)) _
      (λ t. refl)
      (λ f. by_test Tied (length entries == count_limit) (TooMany (length entries)) (New (length entries)) (λ t. (fits, grind (arith, nat_tests))) (λ t. refl))

  tied_reply : Tied (reply_of entries key given)
  unfolding reply_of
  tied_reply = by_test Tied (nat_lt payload_limit (length given)) (TooLarge (length given)) _ (λ t. refl) (λ f. tied_by (holder key entries) (grind (arith, nat_tests)))

pub tied_of : (s : RecorderState) (key : Key) (given : List ℕ) (n : FullNote) → Records s key given n → IsTied s.entries given n
tied_of s key given n r =
    let told : Tied s.entries key given n.note.reply = subst (Tied s.entries key given) (sym r.reply) (by_test (Tied s.entries key given) s.broken Broken (reply_of s.entries key given) (λ t. tt) (λ f. tied_reply s.entries key given)) in
    subst (λ (z : List ℕ). IsTiedBy n.note.reply s.entries given z) (sym r.payload) told

-- the replies to another payload
module _ (entries : List Entry) (key : Key) (p : List ℕ) where
  large_reply : payload_limit < length p → reply_of entries key p ≡ TooLarge (length p)
  unfolding reply_of
  large_reply h = let t : nat_lt payload_limit (length p) ≡ true = grind (arith, nat_tests) in rw t

  small_reply : length p ≤ payload_limit → (h : Option ℕ) → holder key entries ≡ h → reply_of entries key p ≡ reply_by h entries p
  unfolding reply_of
  small_reply f h e = let t : nat_lt payload_limit (length p) ≡ false = grind (arith, nat_tests) in rw (t, e)

  held_reply : length p ≤ payload_limit → (i : ℕ) → holder key entries ≡ Some i → (b : Bool) → bytes_eq (payload_at entries i) p ≡ b → reply_of entries key p ≡ (if b then Known i else Collision i)
  held_reply f i e b t = small_reply f (Some i) e ∙ ap (λ (z : Bool). if z then Known i else Collision i) t

  full_reply : length p ≤ payload_limit → holder key entries ≡ None → end_limit < end_of entries + (head_len + length p) → reply_of entries key p ≡ Full (end_of entries) (head_len + length p)
  full_reply f e h = let t : nat_lt end_limit (end_of entries + (head_len + length p)) ≡ true = grind (arith, nat_tests) in small_reply f None e ∙ (rw t)

  room_reply : length p ≤ payload_limit → holder key entries ≡ None → end_of entries + (head_len + length p) ≤ end_limit → (b : Bool) → (length entries == count_limit) ≡ b
      → reply_of entries key p ≡ (if b then TooMany (length entries) else New (length entries))
  room_reply f e h b c = let t : nat_lt end_limit (end_of entries + (head_len + length p)) ≡ false = grind (arith, nat_tests) in small_reply f None e ∙ (rw (t, c))

-- The reply to a payload that is tied to a note is the note's.
module _ (entries : List Entry) (key : Key) (given p held : List ℕ) where
  abbrev Same : RecordReply → Type 0
  Same reply = held ≡ payload_held entries given reply → IsTiedBy reply entries p held → (reply_of entries key p ≡ reply) × (payload_held entries p reply ≡ payload_held entries given reply)

  same_by : (h : Option ℕ) → holder key entries ≡ h → length given ≤ payload_limit → Same (reply_by h entries given)
  same_by (Some i) e fits = by_test Same (bytes_eq (payload_at entries i) given) (Known i) (Collision i)
      (λ t is tie.
      let of_given : payload_at entries i ≡ given = (bytes_eq-Decides (payload_at entries i) given).0 t in
      let of_p : payload_at entries i ≡ p = sym is ∙ tie in
      let long : length p ≡ length given = ap length (sym of_p ∙ of_given) in
      (held_reply entries key p (omega arith) i e true ((bytes_eq-Decides (payload_at entries i) p).1 of_p), refl))
      (λ f is tie.
      let apart : bytes_eq (payload_at entries i) p ≡ false = false_from_ne_true (bytes_eq (payload_at entries i) p) (λ t. tie.0 (is ∙ (bytes_eq-Decides (payload_at entries i) p).0 t)) in
      (held_reply entries key p tie.1 i e false apart, refl))
  same_by None e fits = by_test Same (nat_lt end_limit (end_of entries + (head_len + length given))) (Full (end_of entries) (head_len + length given)) _
      (λ t is tie.
      let past : end_limit < end_of entries + (head_len + length given) = grind (arith, nat_tests) in
      let long : length p ≡ length given = omega arith in
      (full_reply entries key p (omega arith) e (omega arith) ∙ ap (λ (n : ℕ). Full (end_of entries) (head_len + n)) long, refl))
      (λ f. by_test Same (length entries == count_limit) (TooMany (length entries)) (New (length entries))
      (λ t is tie. (room_reply entries key p tie.0 e tie.1 true t, refl))
      (λ t is tie.
      let near : end_of entries + (head_len + length given) ≤ end_limit = grind (arith, nat_tests) in
      let long : length p ≡ length given = ap length (sym tie ∙ is) in
      (room_reply entries key p (omega arith) e (omega arith) false t, sym tie ∙ is)))

  same_reply : Same (reply_of entries key given)
  unfolding reply_of
  same_reply = by_test Same (nat_lt payload_limit (length given)) (TooLarge (length given)) _
      (λ t is tie. let past : payload_limit < length given = grind (arith, nat_tests) in (large_reply entries key p (omega arith) ∙ ap TooLarge (sym tie), refl))
      (λ f. same_by (holder key entries) refl (grind (arith, nat_tests)))

pub records_by_tie : (s : RecorderState) (key : Key) (p : List ℕ) (n : FullNote) → Answers s n → n.note.call ≡ Record key → IsTied s.entries p n → Records s key p n
records_by_tie s key p n answers call tie = by_state s.broken refl
  where
    of_call : (given : List ℕ) × Records s key given n
    of_call = subst (λ (z : RecordCall). AnswersCall s n z) call answers

    by_state : (b : Bool) → s.broken ≡ b → Records s key p n
    by_state true e =
        let given = of_call.0 in
        let r = of_call.1 in
        let is : n.note.reply ≡ Broken = r.reply ∙ ap (λ (b : Bool). if b then Broken else reply_of s.entries key given) e in record {
          call = call;
          reply = is ∙ sym (ap (λ (b : Bool). if b then Broken else reply_of s.entries key p) e);
          payload = r.payload ∙ (ap (payload_held s.entries given) is ∙ sym (ap (payload_held s.entries p) is));
        }
    by_state false e =
        let given = of_call.0 in
        let r = of_call.1 in
        let is : n.note.reply ≡ reply_of s.entries key given = r.reply ∙ ap (λ (b : Bool). if b then Broken else reply_of s.entries key given) e in
        let held : n.payload ≡ payload_held s.entries given (reply_of s.entries key given) = r.payload ∙ ap (payload_held s.entries given) is in
        let same = same_reply s.entries key given p n.payload held (subst (λ (z : RecordReply). IsTiedBy z s.entries p n.payload) is tie) in record {
          call = call;
          reply = is ∙ (sym same.0 ∙ sym (ap (λ (b : Bool). if b then Broken else reply_of s.entries key p) e));
          payload = held ∙ (sym same.1 ∙ ap (payload_held s.entries p) (sym is));
        }
