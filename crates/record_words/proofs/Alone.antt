-- With one thread the record is a function of the entries before and of the lines.
use Rattle.std.proofs.Common.{◌≡◌, ◌≢◌, ℕ, zero, suc, ◌%◌, ◌<◌, ◌≤◌, List, [], ◌∷◌, ◌++◌, length, take, refl, sym, ap, ◌∙◌, subst, append_assoc, append-nil, length-append, ⊎_elim, eq-or-lt_of_le, mod-lt, zero-lt-suc, ap₂, arith}
use Rattle.std.specs.List.{AllZip}
use Rattle.foz_words.specs.declared.key.Key.{Key}
use Rattle.foz_entry.specs.declared.cut.Entry.{Entry}
use Rattle.foz_entry.specs.Entries.{end_of, entry_of}
use Rattle.record_words.specs.declared.note.RecordReply.{RecordReply}
use Rattle.record_words.specs.declared.note.RecordReply.TheVariants.{New, Known, Collision, TooLarge, Full, TooMany, Flushed, DiskFault, Broken}
use Rattle.record_words.specs.Recorder.{reply_of}
use Rattle.record_words.specs.Story.{At}
use Rattle.record_words.specs.Recorded.{Line, Answer, skipped, refused, read, passed, declined, replied, IsAnswered, AreAnswers, Recorded}
use Rattle.record_words.specs.Alone.{grown_by, after_record, entries_alone, answers_alone}
use Rattle.record_words.proofs.Places.{take_front}

pub all_one : (j k : ℕ) → j % 1 ≡ k % 1
all_one j k = let a : j % 1 < 1 = mod-lt j (zero-lt-suc 0) in let b : k % 1 < 1 = mod-lt k (zero-lt-suc 0) in omega arith

module _ {Cause : Type 0} where
  -- from greater lengths on
  pub each_from : (before more later : List Entry) (lines : List (Line Cause)) (answers : List (Answer Cause)) → AllZip (IsAnswered before later) lines answers
      → ((k : ℕ) (reply : RecordReply) (n : ℕ) → At answers k (replied reply n) → length more ≤ n) → AllZip (IsAnswered more later) lines answers
  each_from before more later [] [] all above = tt
  each_from before more later [] (a ∷ answers) all above = all
  each_from before more later (l ∷ lines) [] all above = all
  each_from before more later (skipped ∷ lines) (passed ∷ answers) all above = (tt, each_from before more later lines answers all.1 (λ k. above (suc k)))
  each_from before more later (refused cause ∷ lines) (declined told ∷ answers) all above = (all.0, each_from before more later lines answers all.1 (λ k. above (suc k)))
  each_from before more later (read key payload ∷ lines) (replied reply n ∷ answers) all above =
      (record { from = above 0 reply n refl; upto = all.0.upto; reply_is = all.0.reply_is; added = all.0.added }, each_from before more later lines answers all.1 (λ k. above (suc k)))
  each_from before more later (skipped ∷ lines) (declined told ∷ answers) all above = absurd all.0
  each_from before more later (skipped ∷ lines) (replied reply n ∷ answers) all above = absurd all.0
  each_from before more later (refused cause ∷ lines) (passed ∷ answers) all above = absurd all.0
  each_from before more later (refused cause ∷ lines) (replied reply n ∷ answers) all above = absurd all.0
  each_from before more later (read key payload ∷ lines) (passed ∷ answers) all above = absurd all.0
  each_from before more later (read key payload ∷ lines) (declined told ∷ answers) all above = absurd all.0

  module _ (before later : List Entry) (line : Line Cause) (lines : List (Line Cause)) (answer : Answer Cause) (answers : List (Answer Cause)) (are : AreAnswers before (line ∷ lines) 1 later (answer ∷ answers)) where
    abbrev IsOnce : ℕ → ℕ → Type 0
    IsOnce i k = At answers k (replied (New i) i) × ((j : ℕ) → At answers j (replied (New i) i) → j ≡ k)

    -- an entry that the first line didn't add was added by a later one
    once_later : (i : ℕ) → (answer ≡ replied (New i) i → ⊥) → (k : ℕ) × (At (answer ∷ answers) k (replied (New i) i) × ((j : ℕ) → At (answer ∷ answers) j (replied (New i) i) → j ≡ k)) → (k : ℕ) × IsOnce i k
    once_later i other (zero, h) = absurd (other (let e = h.0 in cc))
    once_later i other (suc k, h) = (k, (h.0, λ j at. let e = h.1 (suc j) at in omega arith))

    -- the lines after the first, from the entries that it leaves
    rest_are : (more added : List Entry) → later ≡ more ++ added → length before ≤ length more → ((i : ℕ) → length more ≤ i → answer ≡ replied (New i) i → ⊥)
        → ((k : ℕ) (reply : RecordReply) (n : ℕ) → At answers k (replied reply n) → length more ≤ n) → AreAnswers more lines 1 later answers
    rest_are more added grown longer other above = record {
      added = added;
      grown = grown;
      each = each_from before more later lines answers are.each.1 above;
      in_order = λ j k a b m n h same x y. are.in_order (suc j) (suc k) a b m n (let g : suc j < suc k = omega arith in g) (all_one (suc j) (suc k)) x y;
      once = λ i low high. once_later i (other i low) (are.once i (let g : length before ≤ i = omega arith in g) high);
    }

  pub reply_low : (before later : List Entry) (lines : List (Line Cause)) (answers : List (Answer Cause)) → AllZip (IsAnswered before later) lines answers → (k : ℕ) (reply : RecordReply) (n : ℕ) → At answers k (replied reply n) → length before ≤ n
  reply_low before later lines [] all k reply n at = absurd cc
  reply_low before later [] (a ∷ answers) all k reply n at = absurd all
  reply_low before later (skipped ∷ lines) (passed ∷ answers) all zero reply n at = absurd cc
  reply_low before later (refused cause ∷ lines) (declined told ∷ answers) all zero reply n at = absurd cc
  reply_low before later (read key payload ∷ lines) (replied r m ∷ answers) all zero reply n at = let low = all.0.from in let same : m ≡ n = cc in omega arith
  reply_low before later (skipped ∷ lines) (declined told ∷ answers) all zero reply n at = absurd all.0
  reply_low before later (skipped ∷ lines) (replied r m ∷ answers) all zero reply n at = absurd all.0
  reply_low before later (refused cause ∷ lines) (passed ∷ answers) all zero reply n at = absurd all.0
  reply_low before later (refused cause ∷ lines) (replied r m ∷ answers) all zero reply n at = absurd all.0
  reply_low before later (read key payload ∷ lines) (passed ∷ answers) all zero reply n at = absurd all.0
  reply_low before later (read key payload ∷ lines) (declined told ∷ answers) all zero reply n at = absurd all.0
  reply_low before later (l ∷ lines) (a ∷ answers) all (suc k) reply n at = reply_low before later lines answers all.1 k reply n at

  low_all : (before later : List Entry) (line : Line Cause) (lines : List (Line Cause)) (answer : Answer Cause) (answers : List (Answer Cause)) → AreAnswers before (line ∷ lines) 1 later (answer ∷ answers)
      → (k : ℕ) (reply : RecordReply) (n : ℕ) → At answers k (replied reply n) → length before ≤ n
  low_all before later line lines answer answers are k reply n at = reply_low before later (line ∷ lines) (answer ∷ answers) are.each (suc k) reply n at

  module _ (before later : List Entry) (key : Key) (payload : List ℕ) (lines : List (Line Cause)) (reply : RecordReply) (n : ℕ) (answers : List (Answer Cause)) (are : AreAnswers before (read key payload ∷ lines) 1 later (replied reply n ∷ answers)) where
    -- the first line that is read is answered on the entries before
    first_cut : n ≡ length before
    first_cut = ⊎_elim (λ (e : length before ≡ n). sym e) (λ (h : length before < n).
        let high = are.each.0.upto in
        let o = are.once (length before) (let g : length before ≤ length before = omega arith in g) (let g : length before < length later = omega arith in g) in
        absurd (no_gap o.0 o.1.0 h))
        (eq-or-lt_of_le are.each.0.from)
      where
        no_gap : (k : ℕ) → At (replied reply n ∷ answers) k (replied (New (length before)) (length before)) → length before < n → ⊥
        no_gap zero e h = let same : n ≡ length before = cc in omega arith
        no_gap (suc k) e h = let r = (are.in_order 0 (suc k) reply (New (length before)) n (length before) (omega arith) (all_one 0 (suc k)) refl e).0 in omega arith

    first_taken : take n later ≡ before
    first_taken = ap (λ (z : ℕ). take z later) first_cut ∙ (ap (take (length before)) are.grown ∙ take_front before are.added)

    first_reply : reply ≡ reply_of before key payload
    first_reply = are.each.0.reply_is ∙ ap (λ (z : List Entry). reply_of z key payload) first_taken

    abbrev rest_of : List Entry → Type 0
    rest_of more = AreAnswers more lines 1 later answers

    -- where it adds nothing
    rest_same : ((i : ℕ) → reply ≢ New i) → rest_of before
    rest_same other = rest_are before later (read key payload) lines (replied reply n) answers are before are.added are.grown (omega arith)
        (λ i low e. other i (let h : reply ≡ New i = cc in h))
        (λ k r m at. let up = (are.in_order 0 (suc k) reply r n m (omega arith) (all_one 0 (suc k)) refl at).0 in let c = first_cut in omega arith)

    -- where it adds an entry
    rest_new : (i : ℕ) → reply ≡ New i → rest_of (before ++ entry_of (end_of before) key payload ∷ [])
    rest_new i is =
        let entry = entry_of (end_of before) key payload in
        let more = before ++ entry ∷ [] in
        let c = first_cut in
        let a = are.each.0.added i is in
        let index = a.0 in
        let there : At later (length before) entry = subst (λ (z : ℕ). At later z entry) c (subst (λ (z : List Entry). At later n (entry_of (end_of z) key payload)) first_taken a.1) in
        let grown = front_and (subst (λ (z : List Entry). At z (length before) entry) are.grown there) in
        let l = length-append before (entry ∷ []) in
        rest_are before later (read key payload) lines (replied reply n) answers are more grown.0 (are.grown ∙ grown.1) (omega arith)
        (λ j low e. let same : n ≡ j = cc in omega arith)
        (λ k r m at. let up = (are.in_order 0 (suc k) reply r n m (omega arith) (all_one 0 (suc k)) refl at).1 (is ∙ ap New index) in omega arith)
      where
        at_start : (xs : List Entry) (x : Entry) → At xs 0 x → (rest : List Entry) × (xs ≡ x ∷ rest)
        at_start [] x e = absurd cc
        at_start (y ∷ ys) x e = let h : y ≡ x = cc in (ys, ap (λ (z : Entry). z ∷ ys) h)

        behind : (xs ys : List Entry) (x : Entry) → At (xs ++ ys) (length xs) x → At ys 0 x
        behind [] ys x e = e
        behind (z ∷ zs) ys x e = behind zs ys x e

        front_and : At (before ++ are.added) (length before) (entry_of (end_of before) key payload) → (rest : List Entry) × (before ++ are.added ≡ (before ++ entry_of (end_of before) key payload ∷ []) ++ rest)
        front_and e = let s = at_start are.added (entry_of (end_of before) key payload) (behind before are.added (entry_of (end_of before) key payload) e) in
            (s.0, ap (λ (z : List Entry). before ++ z) s.1 ∙ sym (append_assoc before (entry_of (end_of before) key payload ∷ []) s.0))

    rest_by : (r : RecordReply) → reply ≡ r → rest_of (grown_by r before key payload)
    rest_by (New i) is = rest_new i is
    rest_by (Known i) is = rest_same (λ j e. cc)
    rest_by (Collision i) is = rest_same (λ j e. cc)
    rest_by (TooLarge i) is = rest_same (λ j e. cc)
    rest_by (Full i k) is = rest_same (λ j e. cc)
    rest_by (TooMany i) is = rest_same (λ j e. cc)
    rest_by (Flushed i) is = rest_same (λ j e. cc)
    rest_by DiskFault is = rest_same (λ j e. cc)
    rest_by Broken is = rest_same (λ j e. cc)

    rest_after : rest_of (after_record before key payload)
    rest_after = rest_by (reply_of before key payload) first_reply

  none_added : (before later : List Entry) → AreAnswers {Cause = Cause} before [] 1 later [] → later ≡ before
  none_added before later are = by_added are.added are.grown
    where
      by_added : (added : List Entry) → later ≡ before ++ added → later ≡ before
      by_added [] e = e ∙ append-nil before
      by_added (x ∷ xs) e =
          let l = ap length e in
          let a = length-append before (x ∷ xs) in
          let o = are.once (length before) (let g : length before ≤ length before = omega arith in g) (let g : length before < length later = omega arith in g) in
          absurd (let h = o.1.0 in cc)

  -- the answers and the entries after are those of the lines one by one
  pub alone : (before later : List Entry) (lines : List (Line Cause)) (answers : List (Answer Cause)) → AreAnswers before lines 1 later answers → (answers ≡ answers_alone before lines) × (later ≡ entries_alone before lines)
  alone before later [] [] are = (refl, none_added before later are)
  alone before later [] (a ∷ answers) are = absurd are.each
  alone before later (l ∷ lines) [] are = absurd are.each
  alone before later (skipped ∷ lines) (passed ∷ answers) are =
      let t = alone before later lines answers (rest_are before later skipped lines passed answers are before are.added are.grown (omega arith) (λ i low e. cc) (low_all before later skipped lines passed answers are)) in
      (ap (λ (z : List (Answer Cause)). passed ∷ z) t.0, t.1)
  alone before later (refused cause ∷ lines) (declined told ∷ answers) are =
      let t = alone before later lines answers (rest_are before later (refused cause) lines (declined told) answers are before are.added are.grown (omega arith) (λ i low e. cc) (low_all before later (refused cause) lines (declined told) answers are)) in
      (ap₂ (λ (x : Cause) (z : List (Answer Cause)). declined x ∷ z) are.each.0 t.0, t.1)
  alone before later (read key payload ∷ lines) (replied reply n ∷ answers) are =
      let t = alone (after_record before key payload) later lines answers (rest_after before later key payload lines reply n answers are) in
      let r = first_reply before later key payload lines reply n answers are in
      let c = first_cut before later key payload lines reply n answers are in
      ((let head : ◌≡◌ {A = Answer Cause} (replied reply n) (replied (reply_of before key payload) (length before)) = cc in ap₂ (λ (x : Answer Cause) (z : List (Answer Cause)). x ∷ z) head t.0), t.1)
  alone before later (skipped ∷ lines) (declined told ∷ answers) are = absurd are.each.0
  alone before later (skipped ∷ lines) (replied reply n ∷ answers) are = absurd are.each.0
  alone before later (refused cause ∷ lines) (passed ∷ answers) are = absurd are.each.0
  alone before later (refused cause ∷ lines) (replied reply n ∷ answers) are = absurd are.each.0
  alone before later (read key payload ∷ lines) (passed ∷ answers) are = absurd are.each.0
  alone before later (read key payload ∷ lines) (declined told ∷ answers) are = absurd are.each.0

  -- so two records of the same lines agree
  pub one_record : (text_of : List (Line Cause) → List (Answer Cause) → ℕ → List ℕ) (before e f : List Entry) (lines : List (Line Cause)) (s t : List ℕ)
      → Recorded text_of before lines 1 e s → Recorded text_of before lines 1 f t → (e ≡ f) × (s ≡ t)
  one_record text_of before e f lines s t x y =
      let a = alone before e lines x.answers x.are in
      let b = alone before f lines y.answers y.are in
      let entries : e ≡ f = a.1 ∙ sym b.1 in
      (entries, x.told ∙ (ap₂ (λ (z : List (Answer Cause)) (n : ℕ). text_of lines z n) (a.0 ∙ sym b.0) (ap length entries) ∙ sym y.told))
