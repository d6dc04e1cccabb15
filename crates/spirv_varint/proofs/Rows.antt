-- Bytes are read in one way.
use Rattle.std.proofs.Common.{ℕ, suc, ◌≡◌, ◌≢◌, ◌+◌, ◌-◌, ◌<◌, ◌≤◌, cond, ltb, List, [], ◌∷◌, ◌++◌, length, Result, Ok, Err, refl, ap, sym, ◌∙◌, append_assoc, arith}
use Rattle.std.proofs.lemmas.Bool.{lt-ltb, le-ltb}
use Rattle.std.proofs.lemmas.List.{length-append}
use Rattle.spirv_varint.specs.Varint.{number_of, GoOn, IsVarint}
use Rattle.spirv_varint.specs.Reading.{Splits, Answers}
use Rattle.spirv_varint.specs.declared.error.VarintError.{VarintError}
use Rattle.spirv_varint.specs.declared.error.VarintError.TheVariants.{Short, TooLarge, Extra, Memory}

-- the first byte that doesn't go on ends both
one_front : (a b x y : List ℕ) (l m : ℕ) → GoOn a → GoOn b → l < 128 → m < 128 → a ++ l ∷ x ≡ b ++ m ∷ y → (a ≡ b) × (l ≡ m) × (x ≡ y)
one_front [] [] x y l m on_a on_b end_l end_m e = (refl, cc, cc)
one_front [] (k ∷ s) x y l m on_a on_b end_l end_m e = let same : l ≡ k = cc in let least = on_b.0.0 in absurd (omega arith)
one_front (h ∷ t) [] x y l m on_a on_b end_l end_m e = let same : h ≡ m = cc in let least = on_a.0.0 in absurd (omega arith)
one_front (h ∷ t) (k ∷ s) x y l m on_a on_b end_l end_m e =
    let same : h ≡ k = cc in
    let rest : t ++ l ∷ x ≡ s ++ m ∷ y = cc in
    let one = one_front t s x y l m on_a.1 on_b.1 end_l end_m rest in
    (ap (λ n. n ∷ t) same ∙ ap (λ bs. k ∷ bs) one.0, one.1, one.2)

-- no varint begins another
pub one_varint : (a b x y : List ℕ) (m n : ℕ) → IsVarint a m → IsVarint b n → a ++ x ≡ b ++ y → (m ≡ n) × (x ≡ y)
one_varint a b x y m n v w e =
    let left : a ++ x ≡ v.front ++ v.last ∷ x = ap (λ bs. bs ++ x) v.whole ∙ append_assoc v.front (v.last ∷ []) x in
    let right : b ++ y ≡ w.front ++ w.last ∷ y = ap (λ bs. bs ++ y) w.whole ∙ append_assoc w.front (w.last ∷ []) y in
    let one = one_front v.front w.front x y v.last w.last v.goes_on w.goes_on v.ends w.ends (sym left ∙ (e ∙ right)) in
    let same : a ≡ b = v.whole ∙ (ap (λ bs. bs ++ v.last ∷ []) one.0 ∙ (ap (λ l. w.front ++ l ∷ []) one.1 ∙ sym w.whole)) in
    (v.value ∙ (ap number_of same ∙ sym w.value), one.2)

abbrev pub BeginsNone : List ℕ → Type 0
BeginsNone bytes = (varint after : List ℕ) (word : ℕ) → IsVarint varint word → bytes ≡ varint ++ after → ⊥

cut_front : (begun front x : List ℕ) (last : ℕ) → GoOn begun → last < 128 → begun ≡ front ++ last ∷ x → ⊥
cut_front [] [] x last on ends e = cc
cut_front [] (h ∷ t) x last on ends e = cc
cut_front (b ∷ bs) [] x last on ends e = let same : b ≡ last = cc in let least = on.0.0 in omega arith
cut_front (b ∷ bs) (h ∷ t) x last on ends e = let rest : bs ≡ t ++ last ∷ x = cc in cut_front bs t x last on.1 ends rest

cut : (begun : List ℕ) → GoOn begun → BeginsNone begun
cut begun on varint after word v e = cut_front begun v.front after v.last on v.ends (e ∙ (ap (λ bs. bs ++ after) v.whole ∙ append_assoc v.front (v.last ∷ []) after))

large_front : (begun more front x : List ℕ) (fifth last : ℕ) → GoOn begun → 15 < fifth → last < 128 → length front ≤ length begun → (length front ≡ length begun → last ≤ 15) → begun ++ fifth ∷ more ≡ front ++ last ∷ x → ⊥
large_front [] more [] x fifth last on large ends size least e = let same : fifth ≡ last = cc in let most = least refl in omega arith
large_front [] more (h ∷ t) x fifth last on large ends size least e = omega arith
large_front (b ∷ bs) more [] x fifth last on large ends size least e = let same : b ≡ last = cc in let more = on.0.0 in omega arith
large_front (b ∷ bs) more (h ∷ t) x fifth last on large ends size least e =
    let rest : bs ++ fifth ∷ more ≡ t ++ last ∷ x = cc in
    large_front bs more t x fifth last on.1 large ends (omega arith) (λ same. least (ap suc same)) rest

too_large : (begun more : List ℕ) (fifth : ℕ) → GoOn begun → length begun ≡ 4 → 15 < fifth → BeginsNone (begun ++ fifth ∷ more)
too_large begun more fifth on size large varint after word v e =
    let most = v.size in
    large_front begun more v.front after fifth v.last on large v.ends (omega arith) (λ same. v.fifth (same ∙ size)) (e ∙ (ap (λ bs. bs ++ after) v.whole ∙ append_assoc v.front (v.last ∷ []) after))

-- the words end where all stand, or where no further one does
pub record Ends (count : ℕ) (words rest : List ℕ) : Type 0 where
  pub fits : length words ≤ count
  pub none : length words < count → BeginsNone rest

same_split : (words others a b rest left : List ℕ) (count : ℕ) → a ≡ b → Splits a words rest → Splits b others left → Ends count words rest → Ends count others left → (words ≡ others) × (rest ≡ left)
unfolding Splits
same_split [] [] a b rest left count e s t p q = (refl, sym s ∙ (e ∙ t))
same_split [] (v ∷ vs) a b rest left count e s t p q = let fits = q.fits in absurd (p.none (omega arith) t.0 t.1 v t.2 (sym s ∙ (e ∙ t.3)))
same_split (w ∷ ws) [] a b rest left count e s t p q = let fits = p.fits in absurd (q.none (omega arith) s.0 s.1 w s.2 (sym t ∙ (sym e ∙ s.3)))
same_split (w ∷ ws) (v ∷ vs) a b rest left count e s t p q =
    let one = one_varint s.0 t.0 s.1 t.1 w v s.2 t.2 (sym s.3 ∙ (e ∙ t.3)) in
    let fits_p = p.fits in
    let fits_q = q.fits in
    let same = same_split ws vs s.1 t.1 rest left (count - 1) one.1 s.4 t.4 (record { fits = omega arith; none = λ lt. p.none (omega arith) }) (record { fits = omega arith; none = λ lt. q.none (omega arith) }) in
    (ap (λ n. n ∷ ws) one.0 ∙ ap (λ ns. v ∷ ns) same.0, same.1)

-- the answer, from the words that stand and the bytes after them
answer_of : ℕ → ℕ → List ℕ → List ℕ → Result (List ℕ) VarintError
answer_of count len words rest =
    cond (ltb (length words) count)
    (cond (ltb 4 (length rest)) (Err (TooLarge (len + 4 - length rest))) (Err (Short len)))
    (cond (ltb 0 (length rest)) (Err (Extra (len - length rest))) (Ok words))

record Comes (bytes : List ℕ) (count : ℕ) (answer : Result (List ℕ) VarintError) : Type 0 where
  words : List ℕ
  rest : List ℕ
  split : Splits bytes words rest
  ends : Ends count words rest
  is : answer ≡ answer_of count (length bytes) words rest

comes : (bytes : List ℕ) (count : ℕ) (answer : Result (List ℕ) VarintError) → answer ≢ Err Memory → Answers bytes count answer → Comes bytes count answer
unfolding answer_of
comes bytes count (Ok words) known a = record {
  words = words;
  rest = [];
  split = a.0;
  ends = record { fits = let all = a.1 in omega arith; none = λ lt. let all = a.1 in absurd (omega arith) };
  is = rw (le-ltb (length words) count (let all = a.1 in omega arith)) refl;
}
comes bytes count (Err (Short at)) known a = record {
  words = a.words;
  rest = a.begun;
  split = a.split;
  ends = record { fits = let lt = a.fewer in omega arith; none = λ lt. cut a.begun a.goes_on };
  is = rw (lt-ltb (length a.words) count a.fewer, le-ltb 4 (length a.begun) a.size) (ap (λ n. Err (Short n)) a.place);
}
comes bytes count (Err (TooLarge at)) known a =
    let long : length (a.begun ++ a.fifth ∷ a.more) ≡ 4 + length (a.fifth ∷ a.more) = length-append a.begun (a.fifth ∷ a.more) ∙ ap (λ n. n + length (a.fifth ∷ a.more)) a.size in
    let place = a.place in
    let is_at : at ≡ length bytes + 4 - length (a.begun ++ a.fifth ∷ a.more) = omega (arith, long, place) in record {
      words = a.words;
      rest = a.begun ++ a.fifth ∷ a.more;
      split = a.split;
      ends = record { fits = let lt = a.fewer in omega arith; none = λ lt. too_large a.begun a.more a.fifth a.goes_on a.size a.large };
      is = rw (lt-ltb (length a.words) count a.fewer, lt-ltb 4 (length (a.begun ++ a.fifth ∷ a.more)) (omega (arith, long))) (ap (λ n. Err (TooLarge n)) is_at);
    }
comes bytes count (Err (Extra at)) known a =
    let place = a.place in
    let is_at : at ≡ length bytes - length (a.first ∷ a.more) = omega (arith, place) in record {
      words = a.words;
      rest = a.first ∷ a.more;
      split = a.split;
      ends = record { fits = let all = a.all in omega arith; none = λ lt. let all = a.all in absurd (omega arith) };
      is = rw (le-ltb (length a.words) count (let all = a.all in omega arith), lt-ltb 0 (length (a.first ∷ a.more)) (omega arith)) (ap (λ n. Err (Extra n)) is_at);
    }
comes bytes count (Err Memory) known a = absurd (known refl)

pub one_answer : (bytes : List ℕ) (count : ℕ) (answer other : Result (List ℕ) VarintError) → answer ≢ Err Memory → other ≢ Err Memory → Answers bytes count answer → Answers bytes count other → answer ≡ other
one_answer bytes count answer other known known_other a b =
    let p = comes bytes count answer known a in
    let q = comes bytes count other known_other b in
    let same = same_split p.words q.words bytes bytes p.rest q.rest count refl p.split q.split p.ends q.ends in
    p.is ∙ (ap (λ ws. answer_of count (length bytes) ws p.rest) same.0 ∙ (ap (λ r. answer_of count (length bytes) q.words r) same.1 ∙ sym q.is))
