-- No key is added that is held already.
use Rattle.std.proofs.Common.{◌≡◌, ◌≢◌, ℕ, zero, suc, ◌+◌, ◌<◌, ◌≤◌, Bool, true, false, cond, ◌&&◌, ◌==◌, if◌then◌else◌, nat_lt, position, bytes_eq, List, [], ◌∷◌, length, take, get_or, Option, Some, None, refl, sym, ap, ◌∙◌, subst, arith}
use Rattle.std.specs.List.{position_or_len}
use Rattle.std.proofs.lemmas.Bool.Decides.{nat_tests}
use Rattle.std.proofs.lemmas.List.Sums.{fails_before_first}
use Rattle.foz_words.specs.declared.key.Key.{Key}
use Rattle.foz_words.specs.Key.{is_key}
use Rattle.foz_entry.specs.declared.cut.Entry.{Entry}
use Rattle.foz_entry.specs.Entries.{end_of, entry_of, is_undamaged}
use Rattle.foz_entry.specs.Limits.{payload_limit, end_limit, count_limit}
use Rattle.record_words.specs.declared.note.RecordReply.{RecordReply}
use Rattle.record_words.specs.declared.note.RecordReply.TheVariants.{New}
use Rattle.record_words.specs.Entries.{holds_key, holder, payload_at}
use Rattle.record_words.specs.Story.{At, AreApart}
use Rattle.record_words.specs.Recorder.{reply_of, reply_by}
use Rattle.record_words.specs.Recorded.{Line, Answer, skipped, refused, read, replied, AreAnswers, IsAnswered}
use Rattle.record_lines.proofs.Added.{at_below, at_one, zip_back}

-- ---- a key that nobody holds

read_at : {X : Type 0} (xs : List X) (p : ℕ) (x d : X) → At xs p x → get_or xs p d ≡ x
read_at [] p x d e = absurd cc
read_at (y ∷ ys) zero x d e = cc
read_at (y ∷ ys) (suc p) x d e = read_at ys p x d e

none_long : (a n : ℕ) (b : Bool) → nat_lt a n ≡ b → cond b (Some a) None ≡ None → n ≤ a
none_long a n true t e = absurd cc
none_long a n false t e = grind (arith, nat_tests)

none_passes : {X : Type 0} (test : X → Bool) (xs : List X) → position test xs ≡ None → (i : ℕ) (x : X) → At xs i x → test x ≡ false
none_passes {X} test xs e i x at =
    let long = none_long (position_or_len test xs) (length xs) (nat_lt (position_or_len test xs) (length xs)) refl e in
    let below = at_below xs i x at in
    subst (λ (z : X). test z ≡ false) (read_at xs i x x at) (fails_before_first test xs i x (omega arith))

both_true : (a b : Bool) → a ≡ true → b ≡ true → (a && b) ≡ true
both_true true b p q = q
both_true false b p q = p

unheld : ((key : Key) → is_key key key ≡ true) → (key : Key) (entries : List Entry) → holder key entries ≡ None → (i : ℕ) (x : Entry) → At entries i x → is_undamaged x ≡ true → x.head.key ≢ key
unfolding holder
unheld itself key entries e i x at sound same =
    let misses : holds_key key x ≡ false = none_passes (holds_key key) entries e i x at in
    let hits : holds_key key x ≡ true = both_true (is_undamaged x) (is_key key x.head.key) sound (subst (λ (z : Key). is_key key z ≡ true) (sym same) (itself key)) in
    cc

-- ---- a new entry has such a key

by_test : (b : Bool) (x y : RecordReply) (i : ℕ) → (if b then x else y) ≡ New i → x ≢ New i → y ≡ New i
by_test true x y i e other = absurd (other e)
by_test false x y i e other = e

by_holder : (h : Option ℕ) (entries : List Entry) (payload : List ℕ) (i : ℕ) → reply_by h entries payload ≡ New i → h ≡ None
by_holder None entries payload i e = refl
by_holder (Some k) entries payload i e = let last = by_test (bytes_eq (payload_at entries k) payload) _ _ i e (λ h. cc) in absurd cc

new_unheld : (entries : List Entry) (key : Key) (payload : List ℕ) (i : ℕ) → reply_of entries key payload ≡ New i → holder key entries ≡ None
unfolding reply_of
new_unheld entries key payload i e = by_holder (holder key entries) entries payload i (by_test (nat_lt payload_limit (length payload)) _ _ i e (λ h. cc))

-- ---- what is added

at_cut : {X : Type 0} (xs : List X) (i j : ℕ) (x : X) → At xs j x → j < i → At (take i xs) j x
at_cut [] i j x at below = absurd cc
at_cut (y ∷ ys) zero j x at below = absurd (omega arith)
at_cut (y ∷ ys) (suc i) zero x at below = at
at_cut (y ∷ ys) (suc i) (suc j) x at below = at_cut ys i j x at (omega arith)

module _ (itself : (key : Key) → is_key key key ≡ true) {Cause : Type 0} (before : List Entry) (lines : List (Line Cause)) (later : List Entry) where
  new_key : (i : ℕ) (x y : Entry) (j : ℕ) (line : Line Cause) → j < i → At later i x → At later j y → is_undamaged y ≡ true → IsAnswered before later line (replied (New i) i) → y.head.key ≢ x.head.key
  new_key i x y j skipped below at_x at_y sound answered = absurd answered
  new_key i x y j (refused cause) below at_x at_y sound answered = absurd answered
  new_key i x y j (read key payload) below at_x at_y sound answered =
      let is_x : entry_of (end_of (take i later)) key payload ≡ x = at_one later i (entry_of (end_of (take i later)) key payload) x (answered.added i refl).1 at_x in
      let free : holder key (take i later) ≡ None = new_unheld (take i later) key payload i (sym answered.reply_is) in
      subst (λ (z : Entry). y.head.key ≢ z.head.key) is_x (unheld itself key (take i later) free j y (at_cut later i j y at_y below) sound)

  pub answers_apart : (threads : ℕ) (answers : List (Answer Cause)) → AreAnswers before lines threads later answers → AreApart before later
  answers_apart threads answers are i x y j low below at_x at_y sound =
      let one = are.once i low (at_below later i x at_x) in
      let line = zip_back (IsAnswered before later) lines answers one.0 (replied (New i) i) are.each one.1.0 in
      new_key i x y j line.0 below at_x at_y sound line.1.1
