-- The calls of one seat, as its thread makes them, and the calls of all seats.
use Rattle.std.proofs.Common.{◌≡◌, ◌≢◌, ℕ, zero, suc, ◌+◌, ◌%◌, ◌<◌, ◌≤◌, true, false, if◌then◌else◌, ◌==◌, All, List, [], ◌∷◌, ◌++◌, length, get_or, refl, sym, ap, ◌∙◌, subst, ⊎_elim, eq-or-lt_of_le, mod-lt, arith}
use Rattle.std.proofs.lemmas.Bool.Decides.{nat_tests}
use Rattle.foz_words.specs.declared.key.Key.{Key}
use Rattle.record_words.specs.declared.note.FullNote.{FullNote}
use Rattle.record_words.specs.declared.note.RecordCall.TheVariants.{Record}
use Rattle.record_words.specs.declared.state.RecorderState.{RecorderState}
use Rattle.record_words.specs.Story.{At, leads, Records}
use Rattle.record_words.specs.Recorded.{Line, read}
use Rattle.record_words.specs.Placed.{RecordsAt, IsPlaced, IsServed}
use Rattle.record_words.proofs.Places.{at_below, at_one, at_here, at_front, at_append, take_front, take_within}

-- the places, with that of line k too
abbrev pub placed_also : ℕ → ℕ → (ℕ → ℕ) → ℕ → ℕ
placed_also k p place j = if j == k then p else place j

also_here : (k p : ℕ) (place : ℕ → ℕ) → placed_also k p place k ≡ p
also_here k p place = let test : (k == k) ≡ true = grind (arith, nat_tests) in rw test

also_other : (k p : ℕ) (place : ℕ → ℕ) (j : ℕ) → j < k → placed_also k p place j ≡ place j
also_other k p place j h = let test : (j == k) ≡ false = grind (arith, nat_tests) in rw test

-- a call stays where it is
pub call_stays : (origin : RecorderState) (story more : List FullNote) (number : ℕ) (key : Key) (payload : List ℕ) (p : ℕ) → RecordsAt origin story number key payload p → RecordsAt origin (story ++ more) number key payload p
call_stays origin story more number key payload p c =
    let below = at_below story p c.note c.at in record {
      note = c.note;
      at = at_front story more p c.note c.at;
      seat = c.seat;
      records = subst (λ (z : List FullNote). Records (leads origin z) key payload c.note) (sym (take_within story more p (omega arith))) c.records;
    }

module _ {Cause : Type 0} (origin : RecorderState) (number : ℕ) (lines : List (Line Cause)) (threads thread : ℕ) where
  -- a new seat has made no calls
  pub served_none : (story : List FullNote) (place : ℕ → ℕ) → All (λ n. n.note.seat ≢ number) story → IsServed origin story number lines threads thread 0 place
  served_none story place none = record {
    calls = λ k key payload h. absurd (omega arith);
    rising = λ j k a b p q h below. absurd (omega arith);
    every = λ p n key at seat call. absurd (let e = none p n (at_below story p n at) in e (subst (λ (z : FullNote). z.note.seat ≡ number) (sym (read_at story p n at)) seat));
  }
    where
      read_at : (xs : List FullNote) (p : ℕ) (n : FullNote) → At xs p n → get_or xs p n ≡ n
      read_at [] p n e = absurd cc
      read_at (x ∷ xs) zero n e = cc
      read_at (x ∷ xs) (suc p) n e = read_at xs p n e

  -- a line that is another thread's, or isn't read, is passed
  pub served_pass : (story : List FullNote) (upto : ℕ) (place : ℕ → ℕ) → IsServed origin story number lines threads thread upto place
      → ((key : Key) (payload : List ℕ) → upto % threads ≡ thread → At lines upto (read key payload) → ⊥) → IsServed origin story number lines threads thread (suc upto) place
  served_pass story upto place s other = record {
    calls = λ k key payload h t at. ⊎_elim (λ (e : k ≡ upto). absurd (other key payload (subst (λ (z : ℕ). z % threads ≡ thread) e t) (subst (λ (z : ℕ). At lines z (read key payload)) e at)))
        (λ (l : k < upto). s.calls k key payload l t at) (eq-or-lt_of_le (let g : k ≤ upto = omega arith in g));
    rising = λ j k a b p q h below t u x y. ⊎_elim (λ (e : k ≡ upto). absurd (other b q (subst (λ (z : ℕ). z % threads ≡ thread) e u) (subst (λ (z : ℕ). At lines z (read b q)) e y)))
        (λ (l : k < upto). s.rising j k a b p q h l t u x y) (eq-or-lt_of_le (let g : k ≤ upto = omega arith in g));
    every = λ p n key at seat call. let c = s.every p n key at seat call in let below = c.3 in (c.0, c.1, c.2, (omega arith), c.4, c.5, c.6);
  }

  -- notes of other seats, and flushes, change nothing
  pub served_more : (story more : List FullNote) (upto : ℕ) (place : ℕ → ℕ) → IsServed origin story number lines threads thread upto place
      → ((p : ℕ) (n : FullNote) (key : Key) → At more p n → n.note.seat ≡ number → n.note.call ≡ Record key → ⊥) → IsServed origin (story ++ more) number lines threads thread upto place
  served_more story more upto place s none = record {
    calls = λ k key payload h t at. call_stays origin story more number key payload (place k) (s.calls k key payload h t at);
    rising = s.rising;
    every = λ p n key at seat call. ⊎_elim (λ (e : At story p n). s.every p n key e seat call) (λ (h : (j : ℕ) × (At more j n × (p ≡ length story + j))). absurd (none h.0 n key h.1.0 seat call)) (at_append story more p n at);
  }

  -- the next line has its call, which is the story's last note
  pub served_call : (story : List FullNote) (upto : ℕ) (place : ℕ → ℕ) → IsServed origin story number lines threads thread upto place
      → (key : Key) (payload : List ℕ) (n : FullNote) → At lines upto (read key payload) → upto % threads ≡ thread → n.note.seat ≡ number → Records (leads origin story) key payload n
      → IsServed origin (story ++ n ∷ []) number lines threads thread (suc upto) (placed_also upto (length story) place)
  served_call story upto place s key payload n line thread_is seat records =
      let here = also_here upto (length story) place in
      let new : RecordsAt origin (story ++ n ∷ []) number key payload (length story) = record {
        note = n;
        at = at_here story n [];
        seat = seat;
        records = subst (λ (z : List FullNote). Records (leads origin z) key payload n) (sym (take_front story (n ∷ []))) records;
      } in record {
        calls = λ k a b h t at. ⊎_elim (λ (e : k ≡ upto).
            let same : ◌≡◌ {A = Line Cause} (read a b) (read key payload) = (let l = subst (λ (z : ℕ). At lines z (read a b)) e at in at_one lines upto (read a b) (read key payload) l line) in
            let a_is : a ≡ key = cc in
            let b_is : b ≡ payload = cc in
            subst (λ (z : ℕ). RecordsAt origin (story ++ n ∷ []) number a b z) (sym (ap (placed_also upto (length story) place) e ∙ here))
            (subst (λ (z : Key). RecordsAt origin (story ++ n ∷ []) number z b (length story)) (sym a_is) (subst (λ (z : List ℕ). RecordsAt origin (story ++ n ∷ []) number key z (length story)) (sym b_is) new)))
            (λ (l : k < upto). subst (λ (z : ℕ). RecordsAt origin (story ++ n ∷ []) number a b z) (sym (also_other upto (length story) place k l)) (call_stays origin story (n ∷ []) number a b (place k) (s.calls k a b l t at)))
            (eq-or-lt_of_le (let g : k ≤ upto = omega arith in g));
        rising = λ j k a b p q h below t u x y.
            let first : placed_also upto (length story) place j ≡ place j = also_other upto (length story) place j (let g : j < upto = omega arith in g) in
            ⊎_elim (λ (e : k ≡ upto).
            let last : placed_also upto (length story) place k ≡ length story = ap (placed_also upto (length story) place) e ∙ here in
            let c = s.calls j a p (let g : j < upto = omega arith in g) t x in
            let within = at_below story (place j) c.note c.at in
            omega arith)
            (λ (l : k < upto). let other = also_other upto (length story) place k l in let r = s.rising j k a b p q h l t u x y in omega arith)
            (eq-or-lt_of_le (let g : k ≤ upto = omega arith in g));
        every = λ p m call_key at seat_is call. ⊎_elim (λ (e : At story p m).
            let c = s.every p m call_key e seat_is call in
            let below = c.3 in
            let other = also_other upto (length story) place c.0 below in
            (c.0, c.1, c.2, (omega arith), c.4, c.5, other ∙ c.6))
            (λ (h : (j : ℕ) × (At (n ∷ []) j m × (p ≡ length story + j))).
            let first = at_below (n ∷ []) h.0 m h.1.0 in
            let is = h.1.1 in
            let there : length story ≡ p = omega arith in
            (upto, key, payload, (omega arith), thread_is, line, here ∙ there))
            (at_append story (n ∷ []) p m at);
      }

-- all threads together
module _ {Cause : Type 0} (origin : RecorderState) (story : List FullNote) (lines : List (Line Cause)) (threads : ℕ) (seat : ℕ → ℕ) where
  -- the place of a line is that of its thread
  pub placed_by_all : (some : 0 < threads) (place : ℕ → ℕ → ℕ)
      → ((t : ℕ) → t < threads → IsServed origin story (seat t) lines threads t (length lines) (place t))
      → ((p : ℕ) (n : FullNote) (key : Key) → At story p n → n.note.call ≡ Record key → (t : ℕ) × (t < threads) × (n.note.seat ≡ seat t))
      → IsPlaced origin story lines threads seat (λ k. place (k % threads) k)
  placed_by_all some place served numbers = record {
    calls = λ k key payload at. (served (k % threads) (mod-lt k some)).calls k key payload (at_below lines k (read key payload) at) refl at;
    rising = λ j k a b p q h same x y.
        let low = at_below lines k (read b q) y in
        let r = (served (k % threads) (mod-lt k some)).rising j k a b p q h low same refl x y in
        subst (λ (t : ℕ). place t j < place (k % threads) k) (sym same) r;
    every = λ p n key at call.
        let t = numbers p n key at call in
        let c = (served t.0 t.1).every p n key at t.2 call in
        (c.0, c.1, c.2, (c.5, ap (λ (z : ℕ). place z c.0) c.4 ∙ c.6));
  }
