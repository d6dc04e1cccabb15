-- The rows of a recorder's replies, one by one.
use Rattle.std.proofs.Common.{◌≡◌, ◌≢◌, ℕ, ◌+◌, ◌<◌, ◌≤◌, Bool, true, false, cond, if◌then◌else◌, nat_lt, eqb, ⊎_elim, eq-or-lt_of_le, not, zero, suc, ◌==◌, bytes_eq, List, [], ◌∷◌, ◌++◌, length, get_or, Option, Some, None, ap, ◌∙◌, refl, length-append, arith}
use Rattle.std.specs.List.{position_or_len}
use Rattle.std.proofs.lemmas.Bool.Decides.{nat_tests}
use Rattle.std.proofs.lemmas.List.Sums.{prefix_len-le-length}
use Rattle.std.proofs.lemmas.List.Folds.{position_or_len_push}
use Rattle.foz_words.specs.declared.key.Key.{Key}
use Rattle.foz_entry.specs.declared.cut.Entry.{Entry}
use Rattle.foz_entry.specs.Entries.{end_of}
use Rattle.foz_entry.specs.Limits.{count_limit, end_limit, payload_limit}
use Rattle.record_words.specs.declared.note.RecordReply.TheVariants.{New, Known, Collision, TooLarge, Full, TooMany, Broken}
use Rattle.record_words.specs.Entries.{payload_at, holds_key, holder}
use Rattle.record_words.specs.declared.state.RecorderState.{RecorderState}
use Rattle.record_words.specs.Recorder.{reply_of, reply_by, record_reply}

module _ (s : RecorderState) (key : Key) (p : List ℕ) where
  pub row_broken : s.broken ≡ true → record_reply s key p ≡ Broken
  row_broken b = rw b

  module _ (whole : s.broken ≡ false) where
    pub row_too_large : payload_limit < length p → record_reply s key p ≡ TooLarge (length p)
    unfolding reply_of
    row_too_large h = let t : nat_lt payload_limit (length p) ≡ true = grind (arith, nat_tests) in rw (whole, t)

    module _ (fits : length p ≤ payload_limit) where
      row_held : (h : Option ℕ) → holder key s.entries ≡ h → record_reply s key p ≡ reply_by h s.entries p
      unfolding reply_of
      row_held h e = let t : nat_lt payload_limit (length p) ≡ false = grind (arith, nat_tests) in rw (whole, t, e)

      pub row_known : (i : ℕ) → holder key s.entries ≡ Some i → bytes_eq (payload_at s.entries i) p ≡ true → record_reply s key p ≡ Known i
      row_known i e t = row_held (Some i) e ∙ ap (λ (b : Bool). if b then Known i else Collision i) t

      pub row_collision : (i : ℕ) → holder key s.entries ≡ Some i → bytes_eq (payload_at s.entries i) p ≡ false → record_reply s key p ≡ Collision i
      row_collision i e t = row_held (Some i) e ∙ ap (λ (b : Bool). if b then Known i else Collision i) t

      module _ (free : holder key s.entries ≡ None) where
        pub row_full : end_limit < end_of s.entries + (56 + length p) → record_reply s key p ≡ Full (end_of s.entries) (56 + length p)
        row_full h = let t : nat_lt end_limit (end_of s.entries + (56 + length p)) ≡ true = grind (arith, nat_tests) in row_held None free ∙ (rw t)

        pub row_too_many : end_of s.entries + (56 + length p) ≤ end_limit → length s.entries ≡ count_limit → record_reply s key p ≡ TooMany (length s.entries)
        row_too_many h n =
            let t : nat_lt end_limit (end_of s.entries + (56 + length p)) ≡ false = grind (arith, nat_tests) in
            let u : (length s.entries == count_limit) ≡ true = grind (arith, nat_tests) in
            row_held None free ∙ (rw (t, u))

        pub row_new : end_of s.entries + (56 + length p) ≤ end_limit → length s.entries ≢ count_limit → record_reply s key p ≡ New (length s.entries)
        row_new h n =
            let t : nat_lt end_limit (end_of s.entries + (56 + length p)) ≡ false = grind (arith, nat_tests) in
            let u : (length s.entries == count_limit) ≡ false = grind (arith, nat_tests) in
            row_held None free ∙ (rw (t, u))

-- the place of a first element, with one more
abbrev pub first_or : Option ℕ → Bool → ℕ → Option ℕ
first_or (Some i) b n = Some i
first_or None b n = if b then Some n else None

push_place : (a n b m : ℕ) (t : Bool) → a ≤ n → m ≡ n + 1 → b ≡ cond (eqb a n) (n + cond t 0 1) a → cond (nat_lt b m) (Some b) None ≡ first_or (cond (nat_lt a n) (Some a) None) t n
push_place a n b m t h l e = ⊎_elim (λ (s : a ≡ n).
    let same : eqb a n ≡ true = grind (arith, nat_tests) in
    let out : nat_lt a n ≡ false = grind (arith, nat_tests) in
    by_hit t (rw same at e) out)
    (λ (s : a < n).
    let other : eqb a n ≡ false = grind (arith, nat_tests) in
    let in_a : nat_lt a n ≡ true = grind (arith, nat_tests) in
    let is : b ≡ a = rw other at e in
    let in_b : nat_lt b m ≡ true = grind (arith, nat_tests) in
    rw (in_a, in_b) (ap Some is))
    (eq-or-lt_of_le h)
  where
    by_hit : (u : Bool) → b ≡ n + cond u 0 1 → nat_lt a n ≡ false → cond (nat_lt b m) (Some b) None ≡ first_or (cond (nat_lt a n) (Some a) None) u n
    by_hit true f out = let is : b ≡ n = omega arith in let in_b : nat_lt b m ≡ true = grind (arith, nat_tests) in rw (out, in_b) (ap Some is)
    by_hit false f out = let is : b ≡ n + 1 = omega arith in let in_b : nat_lt b m ≡ false = grind (arith, nat_tests) in rw (out, in_b)

pub holder_push : (key : Key) (entries : List Entry) (entry : Entry) → holder key (entries ++ entry ∷ []) ≡ first_or (holder key entries) (holds_key key entry) (length entries)
unfolding holder
holder_push key entries entry =
    push_place (position_or_len (holds_key key) entries) (length entries) (position_or_len (holds_key key) (entries ++ entry ∷ [])) (length (entries ++ entry ∷ [])) (holds_key key entry)
    (prefix_len-le-length (λ x. not (holds_key key x)) entries) (length-append entries (entry ∷ [])) (position_or_len_push (holds_key key) entries entry)

place_below : (a n i : ℕ) (b : Bool) → nat_lt a n ≡ b → cond b (Some a) None ≡ Some i → i < n
place_below a n i true t e = let is : a ≡ i = cc in grind (arith, nat_tests)
place_below a n i false t e = absurd cc

pub holder_below : (key : Key) (entries : List Entry) (i : ℕ) → holder key entries ≡ Some i → i < length entries
unfolding holder
holder_below key entries i e = place_below (position_or_len (holds_key key) entries) (length entries) i (nat_lt (position_or_len (holds_key key) entries) (length entries)) refl e

pub payload_there : (entries : List Entry) (i : ℕ) (d : Entry) → i < length entries → payload_at entries i ≡ (get_or entries i d).payload
payload_there [] i d h = absurd (omega arith)
payload_there (x ∷ xs) zero d h = refl
payload_there (x ∷ xs) (suc i) d h = payload_there xs i d (omega arith)
