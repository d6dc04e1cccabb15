-- Recording the lines one by one makes a record of one thread, and a prefix of them can be recorded first.
use Rattle.std.proofs.Common.{◌≡◌, ◌≢◌, ◌⊎◌, inl, inr, ⊎_elim, eq-or-lt_of_le, ℕ, zero, suc, ◌+◌, ◌<◌, ◌≤◌, List, [], ◌∷◌, ◌++◌, length, take, refl, sym, ap, ◌∙◌, subst, append_assoc, append-nil, length-append, arith}
use Rattle.std.proofs.lemmas.Bool.{cases_lt}
use Rattle.foz_words.specs.declared.key.Key.{Key}
use Rattle.foz_entry.specs.declared.cut.Entry.{Entry}
use Rattle.foz_entry.specs.Entries.{end_of, entry_of}
use Rattle.record_words.specs.declared.note.RecordReply.{RecordReply}
use Rattle.record_words.specs.declared.note.RecordReply.TheVariants.{New, Known, Collision, TooLarge, Full, TooMany, Flushed, DiskFault, Broken}
use Rattle.record_words.specs.declared.answered.Answered.{Answered}
use Rattle.record_words.specs.declared.answered.LineAnswer.TheVariants.{Refused, Replied}
use Rattle.record_words.specs.Recorder.{reply_of}
use Rattle.record_words.specs.Story.{At, AreApart}
use Rattle.record_words.specs.Recorded.{Line, Answer, skipped, refused, read, passed, declined, replied, IsAnswered, AreAnswers}
use Rattle.record_words.specs.Answered.{answered_from}
use Rattle.record_words.specs.Alone.{grown_by, after_record, entries_alone, answers_alone}
use Rattle.record_words.proofs.Places.{take_front, at_here, at_below, at_one, at_append}
use Rattle.record_words.proofs.Law.{new_index}
use Rattle.record_words.proofs.History.{unheld}
use Rattle.record_words.proofs.Alone.{all_one, each_from, reply_low}

module _ (before : List Entry) (key : Key) (payload : List ℕ) where
  abbrev entry : Entry
  entry = entry_of (end_of before) key payload

  -- a reply adds nothing, or it is New and adds the one entry
  abbrev Grows : RecordReply → Type 0
  Grows reply = ((grown_by reply before key payload ≡ before) × ((i : ℕ) → reply ≡ New i → ⊥)) ⊎ ((reply ≡ New (length before)) × (grown_by reply before key payload ≡ before ++ entry ∷ []))

  grows_by : (reply : RecordReply) → reply ≡ reply_of before key payload → Grows reply
  grows_by (New i) is = let last = (new_index before key payload i (sym is)).1 in inr (ap New last, refl)
  grows_by (Known i) is = inl (refl, λ j e. cc)
  grows_by (Collision i) is = inl (refl, λ j e. cc)
  grows_by (TooLarge size) is = inl (refl, λ j e. cc)
  grows_by (Full end need) is = inl (refl, λ j e. cc)
  grows_by (TooMany count) is = inl (refl, λ j e. cc)
  grows_by (Flushed count) is = inl (refl, λ j e. cc)
  grows_by DiskFault is = inl (refl, λ j e. cc)
  grows_by Broken is = inl (refl, λ j e. cc)

  pub grows : Grows (reply_of before key payload)
  grows = grows_by (reply_of before key payload) refl

  pub grown_length : (length before ≤ length (after_record before key payload)) × (length (after_record before key payload) ≤ length before + 1)
  grown_length = elim grows [
    | inl same ↦ let l = ap length same.0 in (omega arith, omega arith)
    | inr more ↦ let l = ap length more.1 in let a = length-append before (entry ∷ []) in (omega arith, omega arith)
  ]

module _ {Cause : Type 0} where
  -- a line that isn't read changes nothing
  module _ (before later : List Entry) (line : Line Cause) (answer : Answer Cause) (answered : IsAnswered before later line answer) (none : (reply : RecordReply) (n : ℕ) → answer ≡ replied reply n → ⊥)
      (lines : List (Line Cause)) (answers : List (Answer Cause)) (are : AreAnswers before lines 1 later answers) where
    passes_order : (j k : ℕ) (a b : RecordReply) (m n : ℕ) → j < k → At (answer ∷ answers) j (replied a m) → At (answer ∷ answers) k (replied b n) → (m ≤ n) × (a ≡ New m → m < n)
    passes_order zero k a b m n lt x y = absurd (none a m (let e = x in cc))
    passes_order (suc j) zero a b m n lt x y = absurd (omega arith)
    passes_order (suc j) (suc k) a b m n lt x y = are.in_order j k a b m n (omega arith) (all_one j k) x y

    passes_once : (i k : ℕ) → At answers k (replied (New i) i) → ((j : ℕ) → At answers j (replied (New i) i) → j ≡ k) → (j : ℕ) → At (answer ∷ answers) j (replied (New i) i) → j ≡ suc k
    passes_once i k at only zero x = absurd (none (New i) i (let e = x in cc))
    passes_once i k at only (suc j) x = ap suc (only j x)

    pub passes : AreAnswers before (line ∷ lines) 1 later (answer ∷ answers)
    passes = record {
      added = are.added;
      grown = are.grown;
      each = (answered, are.each);
      in_order = λ j k a b m n lt same x y. passes_order j k a b m n lt x y;
      once = λ i low high. let o = are.once i low high in (suc o.0, (o.1.0, λ j x. passes_once i o.0 o.1.0 o.1.1 j x));
    }

  -- a line that is read is answered on the entries before it
  module _ (before later : List Entry) (key : Key) (payload : List ℕ) (lines : List (Line Cause)) (answers : List (Answer Cause)) (are : AreAnswers (after_record before key payload) lines 1 later answers) where
    abbrev reply : RecordReply
    reply = reply_of before key payload

    abbrev more : List Entry
    more = after_record before key payload

    abbrev n : ℕ
    n = length before

    low : (k : ℕ) (r : RecordReply) (m : ℕ) → At answers k (replied r m) → length more ≤ m
    low k r m at = reply_low more later lines answers are.each k r m at

    longer : length later ≡ length more + length are.added
    longer = ap length are.grown ∙ length-append more are.added

    read_order : (j k : ℕ) (a b : RecordReply) (m o : ℕ) → j < k → At (replied reply n ∷ answers) j (replied a m) → At (replied reply n ∷ answers) k (replied b o) → (m ≤ o) × (a ≡ New m → m < o)
    read_order j zero a b m o lt x y = absurd (omega arith)
    read_order (suc j) (suc k) a b m o lt x y = are.in_order j k a b m o (omega arith) (all_one j k) x y
    read_order zero (suc k) a b m o lt x y =
        let first : n ≡ m = cc in
        let is : reply ≡ a = cc in
        let above = low k b o y in
        let g = grown_length before key payload in (
          omega arith,
          λ new. elim (grows before key payload) [
            | inl same ↦ absurd (same.1 m (is ∙ new))
            | inr grown ↦ let l = ap length grown.1 in let s = length-append before (entry before key payload ∷ []) in omega arith
          ],
        )

    module _ (added : List Entry) (grown : later ≡ before ++ added)
        (once : (i : ℕ) → n ≤ i → i < length later → (k : ℕ) × (At (replied reply n ∷ answers) k (replied (New i) i) × ((j : ℕ) → At (replied reply n ∷ answers) j (replied (New i) i) → j ≡ k)))
        (there : (i : ℕ) → reply ≡ New i → (i ≡ n) × At later n (entry before key payload)) where
      front : take n later ≡ before
      front = ap (take n) grown ∙ take_front before added

      read_with : AreAnswers before (read key payload ∷ lines) 1 later (replied reply n ∷ answers)
      read_with = record {
        added = added;
        grown = grown;
        each = (
          record {
            from = (let g : n ≤ n = omega arith in g);
            upto = (let l = ap length grown in let a = length-append before added in let g : n ≤ length later = omega arith in g);
            reply_is = ap (λ (es : List Entry). reply_of es key payload) (sym front);
            added = λ i new. let t = there i new in (t.0, subst (λ (es : List Entry). At later n (entry_of (end_of es) key payload)) (sym front) t.1);
          },
          each_from more before later lines answers are.each (λ k r m at. let above = low k r m at in let g = grown_length before key payload in omega arith),
        );
        in_order = λ j k a b m o lt same x y. read_order j k a b m o lt x y;
        once = once;
      }

    later_once : (i k : ℕ) → (◌≡◌ {A = Answer Cause} (replied reply n) (replied (New i) i) → ⊥) → At answers k (replied (New i) i) → ((j : ℕ) → At answers j (replied (New i) i) → j ≡ k) → (j : ℕ) → At (replied reply n ∷ answers) j (replied (New i) i) → j ≡ suc k
    later_once i k other at only zero x = absurd (other (let e = x in cc))
    later_once i k other at only (suc j) x = ap suc (only j x)

    first_once : (i : ℕ) → i < length more → (j : ℕ) → At (replied reply n ∷ answers) j (replied (New i) i) → j ≡ 0
    first_once i lt zero x = refl
    first_once i lt (suc j) x = absurd (let above = low j (New i) i x in omega arith)

    pub reads : AreAnswers before (read key payload ∷ lines) 1 later (replied reply n ∷ answers)
    reads = elim (grows before key payload) [
      | inl same ↦
          let l = ap length same.0 in
          read_with are.added (are.grown ∙ ap (λ (es : List Entry). es ++ are.added) same.0)
          (λ i from upto. let o = are.once i (omega arith) upto in (suc o.0, (o.1.0, λ j x. later_once i o.0 (λ e. same.1 i (let h : reply ≡ New i = cc in h)) o.1.0 o.1.1 j x)))
          (λ i new. absurd (same.1 i new))
      | inr grown ↦
          let l = ap length grown.1 in
          let a = length-append before (entry before key payload ∷ []) in
          let whole : later ≡ before ++ entry before key payload ∷ are.added = are.grown ∙ ap (λ (es : List Entry). es ++ are.added) grown.1 ∙ append_assoc before (entry before key payload ∷ []) are.added in
          read_with (entry before key payload ∷ are.added) whole
          (λ i from upto. ⊎_elim
          (λ (here : n ≡ i).
          let at : At (replied reply n ∷ answers) 0 (replied (New i) i) = let g = grown.0 in cc in
          (0, (at, λ j x. first_once i (omega arith) j x)))
          (λ (behind : n < i).
          let o = are.once i (omega arith) upto in
          (suc o.0, (o.1.0, λ j x. later_once i o.0 (λ e. let same : n ≡ i = cc in omega arith) o.1.0 o.1.1 j x)))
          (eq-or-lt_of_le from))
          (λ i new. ((let g = grown.0 in let e : i ≡ n = cc in e), subst (λ (es : List Entry). At es n (entry before key payload)) (sym whole) (at_here before (entry before key payload) are.added)))
    ]

  pub alone_are : (before : List Entry) (lines : List (Line Cause)) → AreAnswers before lines 1 (entries_alone before lines) (answers_alone before lines)
  alone_are before [] = record {
    added = [];
    grown = sym (append-nil before);
    each = tt;
    in_order = λ j k a b m n lt same x y. absurd cc;
    once = λ i low high. absurd (omega arith);
  }
  alone_are before (skipped ∷ lines) = passes before (entries_alone before lines) skipped passed tt (λ reply n e. cc) lines (answers_alone before lines) (alone_are before lines)
  alone_are before (refused cause ∷ lines) = passes before (entries_alone before lines) (refused cause) (declined cause) refl (λ reply n e. cc) lines (answers_alone before lines) (alone_are before lines)
  alone_are before (read key payload ∷ lines) =
      reads before (entries_alone (after_record before key payload) lines) key payload lines (answers_alone (after_record before key payload) lines) (alone_are (after_record before key payload) lines)

  -- what is added has keys that no undamaged entry before has
  pub alone_apart : (before : List Entry) (lines : List (Line Cause)) → AreApart before (entries_alone before lines)
  alone_apart before [] i x y j low below at_x at_y sound = let h = at_below before i x at_x in absurd (omega arith)
  alone_apart before (skipped ∷ lines) i x y j low below at_x at_y sound = alone_apart before lines i x y j low below at_x at_y sound
  alone_apart before (refused cause ∷ lines) i x y j low below at_x at_y sound = alone_apart before lines i x y j low below at_x at_y sound
  alone_apart before (read key payload ∷ lines) i x y j low below at_x at_y sound =
      let more = after_record before key payload in
      let later = entries_alone more lines in
      let are = alone_are more lines in
      elim (cases_lt i (length more)) [
        | inr above ↦ alone_apart more lines i x y j above below at_x at_y sound
        | inl inside ↦ elim (grows before key payload) [
          | inl same ↦ let l = ap length same.0 in absurd (omega arith)
          | inr grown ↦
              let added = entry before key payload in
              let l = ap length grown.1 in
              let a = length-append before (added ∷ []) in
              let last : i ≡ length before = omega arith in
              let whole : later ≡ before ++ added ∷ are.added = are.grown ∙ (ap (λ (es : List Entry). es ++ are.added) grown.1 ∙ append_assoc before (added ∷ []) are.added) in
              let there : At later i added = subst (λ (n : ℕ). At later n added) (sym last) (subst (λ (es : List Entry). At es (length before) added) (sym whole) (at_here before added are.added)) in
              let is_x : added ≡ x = at_one later i added x there at_x in
              let of_y : At (before ++ added ∷ are.added) j y = subst (λ (es : List Entry). At es j y) whole at_y in
              let before_y : At before j y = ⊎_elim (λ (h : At before j y). h) (λ (h : (k : ℕ) × (At (added ∷ are.added) k y × (j ≡ length before + k))). absurd (let e = h.1.1 in omega arith)) (at_append before (added ∷ are.added) j y of_y) in
              subst (λ (e : Entry). y.head.key ≢ e.head.key) is_x (unheld key before (new_index before key payload (length before) grown.0).0 j y before_y sound)
        ]
      ]

  -- a prefix of the lines, and then the others
  pub entries_then : (before : List Entry) (xs ys : List (Line Cause)) → entries_alone before (xs ++ ys) ≡ entries_alone (entries_alone before xs) ys
  entries_then before [] ys = refl
  entries_then before (skipped ∷ xs) ys = entries_then before xs ys
  entries_then before (refused cause ∷ xs) ys = entries_then before xs ys
  entries_then before (read key payload ∷ xs) ys = entries_then (after_record before key payload) xs ys

  pub answered_then : (n : ℕ) (before : List Entry) (xs ys : List (Line Cause))
      → answered_from n (xs ++ ys) (answers_alone before (xs ++ ys)) ≡ answered_from n xs (answers_alone before xs) ++ answered_from (n + length xs) ys (answers_alone (entries_alone before xs) ys)
  answered_then n before [] ys = ap (λ (m : ℕ). answered_from m ys (answers_alone before ys)) (let e : n ≡ n + 0 = omega arith in e)
  answered_then n before (skipped ∷ xs) ys =
      answered_then (suc n) before xs ys
      ∙ ap (λ (m : ℕ). answered_from (suc n) xs (answers_alone before xs) ++ answered_from m ys (answers_alone (entries_alone before xs) ys)) (let e : suc n + length xs ≡ n + suc (length xs) = omega arith in e)
  answered_then n before (refused cause ∷ xs) ys =
      ap (λ (l : List (Answered Cause)). record { line = n; answer = Refused cause } ∷ l) (answered_then (suc n) before xs ys
      ∙ ap (λ (m : ℕ). answered_from (suc n) xs (answers_alone before xs) ++ answered_from m ys (answers_alone (entries_alone before xs) ys)) (let e : suc n + length xs ≡ n + suc (length xs) = omega arith in e))
  answered_then n before (read key payload ∷ xs) ys =
      let more = after_record before key payload in
      ap (λ (l : List (Answered Cause)). record { line = n; answer = Replied key (reply_of before key payload) } ∷ l) (answered_then (suc n) more xs ys
      ∙ ap (λ (m : ℕ). answered_from (suc n) xs (answers_alone more xs) ++ answered_from m ys (answers_alone (entries_alone more xs) ys)) (let e : suc n + length xs ≡ n + suc (length xs) = omega arith in e))
