-- The lines of one thread that are read, and the places of one seat's calls, by their ranks.
use Rattle.std.proofs.Common.{◌≡◌, ◌≢◌, ℕ, zero, suc, ◌+◌, ◌%◌, ◌<◌, ◌≤◌, ◌==◌, Bool, true, false, if◌then◌else◌, List, [], ◌∷◌, ◌++◌, length, take, Some, refl, sym, ap, ◌∙◌, subst, append-nil, zero-add, arith}
use Rattle.std.proofs.lemmas.Bool.Decides.{nat_tests}
use Rattle.foz_words.specs.declared.key.Key.{Key}
use Rattle.record_words.specs.declared.note.FullNote.{FullNote}
use Rattle.record_words.specs.Story.{At}
use Rattle.record_words.specs.Recorded.{Line, skipped, refused, read}
use Rattle.record_threads.specs.Threads.{Given, is_own, places_from, reads_from, reads_of}
use Rattle.record_threads.proofs.Places.{at_one}

module _ {X : Type 0} where
  at_if : (b : Bool) (x : X) (xs ys : List X) (v : X) → At xs (length ys) v → At (if b then x ∷ xs else xs) (length (if b then x ∷ ys else ys)) v
  at_if true x xs ys v e = e
  at_if false x xs ys v e = e

  less_if : (b : Bool) (x : X) (xs ys : List X) → length xs < length ys → length (if b then x ∷ xs else xs) < length (if b then x ∷ ys else ys)
  less_if true x xs ys h = omega arith
  less_if false x xs ys h = h

  snoc_if : (b : Bool) (x : X) (xs ys zs : List X) → xs ≡ ys ++ zs → (if b then x ∷ xs else xs) ≡ (if b then x ∷ ys else ys) ++ zs
  snoc_if true x xs ys zs e = ap (λ (l : List X). x ∷ l) e
  snoc_if false x xs ys zs e = e

some_is : {X : Type 0} (x y : X) → Some x ≡ Some y → x ≡ y
some_is x y e = cc

module _ {Cause : Type 0} (threads thread : ℕ) where
  abbrev reads : ℕ → List (Line Cause) → List Given
  reads i lines = reads_from i threads thread lines

  -- a line that is read stands at its rank
  pub read_at : (i : ℕ) (lines : List (Line Cause)) (k : ℕ) (key : Key) (payload : List ℕ) → At lines k (read key payload) → (i + k) % threads ≡ thread → At (reads i lines) (length (reads i (take k lines))) (key, payload)
  read_at i [] k key payload at mine = absurd cc
  read_at i (skipped ∷ lines) zero key payload at mine = absurd cc
  read_at i (refused cause ∷ lines) zero key payload at mine = absurd cc
  read_at i (read a b ∷ lines) zero key payload at mine =
      let here : i + 0 ≡ i = omega arith in
      let own : i % threads ≡ thread = ap (λ (z : ℕ). z % threads) (sym here) ∙ mine in
      let test : (i % threads == thread) ≡ true = grind (arith, nat_tests) in
      let a_is : a ≡ key = cc in
      let b_is : b ≡ payload = cc in
      rw test (λ j. Some (a_is j, b_is j))
  read_at i (skipped ∷ lines) (suc k) key payload at mine = read_at (i + 1) lines k key payload at (let e : i + 1 + k ≡ i + suc k = omega arith in ap (λ (z : ℕ). z % threads) e ∙ mine)
  read_at i (refused cause ∷ lines) (suc k) key payload at mine = read_at (i + 1) lines k key payload at (let e : i + 1 + k ≡ i + suc k = omega arith in ap (λ (z : ℕ). z % threads) e ∙ mine)
  read_at i (read a b ∷ lines) (suc k) key payload at mine =
      at_if (i % threads == thread) (a, b) (reads (i + 1) lines) (reads (i + 1) (take k lines)) (key, payload)
      (read_at (i + 1) lines k key payload at (let e : i + 1 + k ≡ i + suc k = omega arith in ap (λ (z : ℕ). z % threads) e ∙ mine))

  -- a later line of the thread has a greater rank
  pub rank_grows : (i : ℕ) (lines : List (Line Cause)) (j k : ℕ) (a : Key) (p : List ℕ) → j < k → At lines j (read a p) → (i + j) % threads ≡ thread → length (reads i (take j lines)) < length (reads i (take k lines))
  rank_grows i [] j k a p h at mine = absurd cc
  rank_grows i (line ∷ lines) j zero a p h at mine = absurd (omega arith)
  rank_grows i (skipped ∷ lines) zero (suc k) a p h at mine = absurd cc
  rank_grows i (refused cause ∷ lines) zero (suc k) a p h at mine = absurd cc
  rank_grows i (read b q ∷ lines) zero (suc k) a p h at mine =
      let here : i + 0 ≡ i = omega arith in
      let own : i % threads ≡ thread = ap (λ (z : ℕ). z % threads) (sym here) ∙ mine in
      let test : (i % threads == thread) ≡ true = grind (arith, nat_tests) in
      rw test (omega arith)
  rank_grows i (skipped ∷ lines) (suc j) (suc k) a p h at mine = rank_grows (i + 1) lines j k a p (omega arith) at (let e : i + 1 + j ≡ i + suc j = omega arith in ap (λ (z : ℕ). z % threads) e ∙ mine)
  rank_grows i (refused cause ∷ lines) (suc j) (suc k) a p h at mine = rank_grows (i + 1) lines j k a p (omega arith) at (let e : i + 1 + j ≡ i + suc j = omega arith in ap (λ (z : ℕ). z % threads) e ∙ mine)
  rank_grows i (read b q ∷ lines) (suc j) (suc k) a p h at mine =
      less_if (i % threads == thread) (b, q) (reads (i + 1) (take j lines)) (reads (i + 1) (take k lines))
      (rank_grows (i + 1) lines j k a p (omega arith) at (let e : i + 1 + j ≡ i + suc j = omega arith in ap (λ (z : ℕ). z % threads) e ∙ mine))

  -- what stands at a rank is a line's
  pub record IsLineOf (i : ℕ) (lines : List (Line Cause)) (r : ℕ) (v : Given) (k : ℕ) : Type 0 where
    pub line : At lines k (read v.0 v.1)
    pub mine : (i + k) % threads ≡ thread
    pub rank_is : length (reads i (take k lines)) ≡ r

  module _ (i : ℕ) (a : Key) (b : List ℕ) (lines : List (Line Cause)) (v : Given) (next : (s : ℕ) → At (reads (i + 1) lines) s v → (k : ℕ) × IsLineOf (i + 1) lines s v k) where
    further : (own : Bool) → (i % threads == thread) ≡ own → (s r : ℕ) → (k : ℕ) × IsLineOf (i + 1) lines s v k
        → ((n : ℕ) → length (if own then (a, b) ∷ reads (i + 1) (take n lines) else reads (i + 1) (take n lines)) ≡ length (reads (i + 1) (take n lines)) + r) → (k : ℕ) × IsLineOf i (read a b ∷ lines) (s + r) v k
    further own t s r l counts = (
      suc l.0,
      record {
        line = l.1.line;
        mine = (let e : i + suc l.0 ≡ i + 1 + l.0 = omega arith in ap (λ (z : ℕ). z % threads) e ∙ l.1.mine);
        rank_is = ap (λ (z : Bool). length (if z then (a, b) ∷ reads (i + 1) (take l.0 lines) else reads (i + 1) (take l.0 lines))) t ∙ (counts l.0 ∙ ap (λ (z : ℕ). z + r) l.1.rank_is);
      },
    )

    line_by : (own : Bool) → (i % threads == thread) ≡ own → (r : ℕ) → At (if own then (a, b) ∷ reads (i + 1) lines else reads (i + 1) lines) r v → (k : ℕ) × IsLineOf i (read a b ∷ lines) r v k
    line_by true t zero at = (
      0,
      record {
        line = (let same : ◌≡◌ {A = Given} (a, b) v = some_is (a, b) v at in λ j. Some (read (same j).0 (same j).1));
        mine = (let here : i + 0 ≡ i = omega arith in let own : i % threads ≡ thread = grind (arith, nat_tests) in ap (λ (z : ℕ). z % threads) here ∙ own);
        rank_is = refl;
      },
    )
    line_by true t (suc r) at = subst (λ (z : ℕ). (k : ℕ) × IsLineOf i (read a b ∷ lines) z v k) (let e : r + 1 ≡ suc r = omega arith in e) (further true t r 1 (next r at) (λ n. omega arith))
    line_by false t r at = subst (λ (z : ℕ). (k : ℕ) × IsLineOf i (read a b ∷ lines) z v k) (let e : r + 0 ≡ r = omega arith in e) (further false t r 0 (next r at) (λ n. omega arith))

  pub line_at_rank : (i : ℕ) (lines : List (Line Cause)) (r : ℕ) (v : Given) → At (reads i lines) r v → (k : ℕ) × IsLineOf i lines r v k
  line_at_rank i [] r v at = absurd cc
  line_at_rank i (skipped ∷ lines) r v at = let l = line_at_rank (i + 1) lines r v at in
      (suc l.0, record { line = l.1.line; mine = (let e : i + suc l.0 ≡ i + 1 + l.0 = omega arith in ap (λ (z : ℕ). z % threads) e ∙ l.1.mine); rank_is = l.1.rank_is })
  line_at_rank i (refused cause ∷ lines) r v at = let l = line_at_rank (i + 1) lines r v at in
      (suc l.0, record { line = l.1.line; mine = (let e : i + suc l.0 ≡ i + 1 + l.0 = omega arith in ap (λ (z : ℕ). z % threads) e ∙ l.1.mine); rank_is = l.1.rank_is })
  line_at_rank i (read a b ∷ lines) r v at = line_by i a b lines v (λ s e. line_at_rank (i + 1) lines s v e) (i % threads == thread) refl r at

  -- one more line
  pub reads_more : (i : ℕ) (lines : List (Line Cause)) (line : Line Cause) → reads i (lines ++ line ∷ []) ≡ reads i lines ++ reads (i + length lines) (line ∷ [])
  reads_more i [] line = let e : i ≡ i + length {A = Line Cause} [] = omega arith in ap (λ (z : ℕ). reads z (line ∷ [])) e
  reads_more i (skipped ∷ lines) line = reads_more (i + 1) lines line ∙ (let e : i + 1 + length lines ≡ i + length {A = Line Cause} (skipped ∷ lines) = omega arith in ap (λ (z : ℕ). reads (i + 1) lines ++ reads z (line ∷ [])) e)
  reads_more i (refused cause ∷ lines) line = reads_more (i + 1) lines line ∙ (let e : i + 1 + length lines ≡ i + length {A = Line Cause} (refused cause ∷ lines) = omega arith in ap (λ (z : ℕ). reads (i + 1) lines ++ reads z (line ∷ [])) e)
  reads_more i (read a b ∷ lines) line =
      let e : i + 1 + length lines ≡ i + length {A = Line Cause} (read a b ∷ lines) = omega arith in
      snoc_if (i % threads == thread) (a, b) (reads (i + 1) (lines ++ line ∷ [])) (reads (i + 1) lines) (reads (i + length {A = Line Cause} (read a b ∷ lines)) (line ∷ []))
      (reads_more (i + 1) lines line ∙ ap (λ (z : ℕ). reads (i + 1) lines ++ reads z (line ∷ [])) e)

  pub one_read_more : (lines : List (Line Cause)) (key : Key) (payload : List ℕ) → reads_of threads thread (lines ++ read key payload ∷ []) ≡ (if length lines % threads == thread then reads_of threads thread lines ++ (key, payload) ∷ [] else reads_of threads thread lines)
  one_read_more lines key payload = reads_more 0 lines (read key payload) ∙ (ap (λ (z : ℕ). reads 0 lines ++ reads z (read key payload ∷ [])) (zero-add (length lines)) ∙ append_if (length lines % threads == thread))
    where
      append_if : (b : Bool) → reads 0 lines ++ (if b then (key, payload) ∷ [] else []) ≡ (if b then reads 0 lines ++ (key, payload) ∷ [] else reads 0 lines)
      append_if true = refl
      append_if false = append-nil (reads 0 lines)

  pub one_passed : (lines : List (Line Cause)) (line : Line Cause) → ((key : Key) (payload : List ℕ) → line ≢ read key payload) → reads_of threads thread (lines ++ line ∷ []) ≡ reads_of threads thread lines
  one_passed lines line other = reads_more 0 lines line ∙ (ap (λ (z : List Given). reads 0 lines ++ z) (nothing (0 + length lines) line other) ∙ append-nil (reads 0 lines))
    where
      nothing : (i : ℕ) (line : Line Cause) → ((key : Key) (payload : List ℕ) → line ≢ read key payload) → reads i (line ∷ []) ≡ []
      nothing i skipped other = refl
      nothing i (refused cause) other = refl
      nothing i (read key payload) other = absurd (other key payload refl)

-- the places of a seat's calls, which rise
module _ (number : ℕ) where
  abbrev places : ℕ → List FullNote → List ℕ
  places i story = places_from i number story

  low_if : (b : Bool) (i : ℕ) (xs : List ℕ) → ((r p : ℕ) → At xs r p → i + 1 ≤ p) → (r p : ℕ) → At (if b then i ∷ xs else xs) r p → i ≤ p
  low_if true i xs low zero p at = let e : i ≡ p = cc in omega arith
  low_if true i xs low (suc r) p at = let l = low r p at in omega arith
  low_if false i xs low r p at = let l = low r p at in omega arith

  places_low : (i : ℕ) (story : List FullNote) (r p : ℕ) → At (places i story) r p → i ≤ p
  places_low i [] r p at = absurd cc
  places_low i (n ∷ ns) r p at = low_if (is_own number n) i (places (i + 1) ns) (λ s q e. places_low (i + 1) ns s q e) r p at

  rise_if : (b : Bool) (i : ℕ) (xs : List ℕ) → ((r p : ℕ) → At xs r p → i + 1 ≤ p) → ((r s p q : ℕ) → r < s → At xs r p → At xs s q → p < q) → (r s p q : ℕ) → r < s
      → At (if b then i ∷ xs else xs) r p → At (if b then i ∷ xs else xs) s q → p < q
  rise_if true i xs low rise r zero p q h at_r at_s = absurd (omega arith)
  rise_if true i xs low rise zero (suc s) p q h at_r at_s = let e : i ≡ p = cc in let l = low s q at_s in omega arith
  rise_if true i xs low rise (suc r) (suc s) p q h at_r at_s = rise r s p q (omega arith) at_r at_s
  rise_if false i xs low rise r s p q h at_r at_s = rise r s p q h at_r at_s

  pub places_rise : (i : ℕ) (story : List FullNote) (r s p q : ℕ) → r < s → At (places i story) r p → At (places i story) s q → p < q
  places_rise i [] r s p q h at_r at_s = absurd cc
  places_rise i (n ∷ ns) r s p q h at_r at_s =
      rise_if (is_own number n) i (places (i + 1) ns) (λ t u e. places_low (i + 1) ns t u e) (λ t u v w g x y. places_rise (i + 1) ns t u v w g x y) r s p q h at_r at_s

  there_if : (b : Bool) (i : ℕ) (xs : List ℕ) (p : ℕ) → (r : ℕ) × At xs r p → (r : ℕ) × At (if b then i ∷ xs else xs) r p
  there_if true i xs p f = (suc f.0, f.1)
  there_if false i xs p f = f

  -- each call of the seat has its place
  pub places_there : (i : ℕ) (story : List FullNote) (p : ℕ) (n : FullNote) → At story p n → is_own number n ≡ true → (r : ℕ) × At (places i story) r (i + p)
  places_there i [] p n at own = absurd cc
  places_there i (m ∷ ms) zero n at own =
      let same : m ≡ n = cc in
      let mine : is_own number m ≡ true = ap (is_own number) same ∙ own in
      let e : i ≡ i + 0 = omega arith in
      (0, subst (λ (z : Bool). At (if z then i ∷ places (i + 1) ms else places (i + 1) ms) 0 (i + 0)) (sym mine) (ap (λ (z : ℕ). Some z) e))
  places_there i (m ∷ ms) (suc p) n at own =
      let f = places_there (i + 1) ms p n at own in
      let e : i + 1 + p ≡ i + suc p = omega arith in
      there_if (is_own number m) i (places (i + 1) ms) (i + suc p) (f.0, subst (λ (z : ℕ). At (places (i + 1) ms) f.0 z) e f.1)
