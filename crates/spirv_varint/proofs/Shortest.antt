-- The varint that is written, and that it is the only shortest one.
use Rattle.std.proofs.Common.{ℕ, zero, suc, ◌≡◌, ◌≢◌, ◌+◌, ◌*◌, ◌/◌, ◌%◌, ◌^◌, ◌<◌, ◌≤◌, ◌⊎◌, inl, inr, List, [], ◌∷◌, ◌++◌, length, get_or, refl, ap, sym, ◌∙◌, arith}
use Rattle.std.proofs.lemmas.Bool.{cases_lt, lt-ltb, le-ltb}
use Rattle.std.proofs.lemmas.List.Concat.{flat_map-cons}
use Rattle.std.proofs.Math.Nat.{pow-succ'}
use Rattle.spirv_varint.specs.Varint.{number_of, GoOn, IsVarint, IsShortest, shortest, varint, spelling}
use Rattle.spirv_varint.specs.Reading.{Splits}

pub shortest-small : (more word : ℕ) → word < 128 → shortest more word ≡ word ∷ []
unfolding shortest
shortest-small zero word lt = refl
shortest-small (suc more) word lt = rw (lt-ltb word 128 lt) refl

pub shortest-large : (more word : ℕ) → 128 ≤ word → shortest (suc more) word ≡ (128 + word % 128) ∷ shortest more (word / 128)
unfolding shortest
shortest-large more word le = rw (le-ltb word 128 le) refl

-- a varint with at most so many bytes before the last, all of which have bits that are wanted
record Fits (more word : ℕ) (bytes : List ℕ) : Type 0 where
  front : List ℕ
  last : ℕ
  whole : bytes ≡ front ++ last ∷ []
  goes_on : GoOn front
  ends : last < 128
  size : length front ≤ more
  fifth : length front ≡ more → last ≤ 15
  value : word ≡ number_of bytes
  useful : (front ≡ []) ⊎ (last ≢ 0)

fits_small : (more word : ℕ) → word < 128 → (0 ≡ more → word ≤ 15) → Fits more word (word ∷ [])
unfolding number_of
fits_small more word lt least = record { front = []; last = word; whole = refl; goes_on = tt; ends = lt; size = omega arith; fifth = least; value = omega arith; useful = inl refl }

fits_more : (more word : ℕ) (bytes : List ℕ) → 128 ≤ word → Fits more (word / 128) bytes → Fits (suc more) word ((128 + word % 128) ∷ bytes)
unfolding number_of
fits_more more word bytes least f =
    let value = f.value in record {
      front = (128 + word % 128) ∷ f.front;
      last = f.last;
      whole = ap (λ bs. (128 + word % 128) ∷ bs) f.whole;
      goes_on = ((omega arith, omega arith), f.goes_on);
      ends = f.ends;
      size = let size = f.size in omega arith;
      fifth = λ full. f.fifth (omega arith);
      value = omega arith;
      useful = inr (elim f.useful [ inl none ↦ λ zero_last. few none zero_last | inr some ↦ some ]);
    }
  where
    few : f.front ≡ [] → f.last ≡ 0 → ⊥
    few none zero_last =
        let number : word / 128 ≡ f.last % 128 + 128 * 0 = f.value ∙ ap number_of (f.whole ∙ ap (λ bs. bs ++ f.last ∷ []) none) in
        omega arith

shortest_fits : (more word : ℕ) → word < 16 * 128 ^ more → Fits more word (shortest more word)
shortest_fits zero word lt = rw (shortest-small zero word (omega arith)) (fits_small zero word (omega arith) (λ _. omega arith))
shortest_fits (suc more) word lt =
    elim (cases_lt word 128) [
      | inl small ↦ rw (shortest-small (suc more) word small) (fits_small (suc more) word small (λ e. absurd (omega arith)))
      | inr large ↦ rw (shortest-large more word large) (fits_more more word (shortest more (word / 128)) large (shortest_fits more (word / 128) (let power = pow-succ' 128 more in omega arith)))
    ]

pub varint_shortest : (word : ℕ) → word < 2 ^ 32 → IsShortest (varint word) word
unfolding varint
varint_shortest word lt =
    let f = shortest_fits 4 word lt in record {
      varint = record { front = f.front; last = f.last; whole = f.whole; goes_on = f.goes_on; ends = f.ends; size = f.size; fifth = f.fifth; value = f.value };
      useful = elim f.useful [ inl none ↦ inl (ap length (f.whole ∙ ap (λ bs. bs ++ f.last ∷ []) none)) | inr some ↦ inr some ];
    }

positive : (front : List ℕ) (last : ℕ) → last < 128 → last ≢ 0 → 0 < number_of (front ++ last ∷ [])
unfolding number_of
positive [] last lt some = omega arith
positive (b ∷ bs) last lt some = let rest = positive bs last lt some in omega arith

alone : (front : List ℕ) (more word last : ℕ) → GoOn front → last < 128 → length front ≤ more → word ≡ number_of (front ++ last ∷ []) → (front ≡ []) ⊎ (last ≢ 0) → front ++ last ∷ [] ≡ shortest more word
unfolding number_of
alone [] more word last on ends size value useful =
    let same : word ≡ last = omega arith in
    ap (λ n. n ∷ []) (sym same) ∙ sym (shortest-small more word (omega arith))
alone (b ∷ bs) zero word last on ends size value useful = absurd (omega arith)
alone (b ∷ bs) (suc more) word last on ends size value useful =
    let some : last ≢ 0 = elim useful [ inl none ↦ absurd cc | inr some ↦ some ] in
    let rest = positive bs last ends some in
    let least = on.0.0 in
    let most = on.0.1 in
    let first : b ≡ 128 + word % 128 = omega arith in
    let high : word / 128 ≡ number_of (bs ++ last ∷ []) = omega arith in
    ap (λ n. n ∷ (bs ++ last ∷ [])) first ∙ (ap (λ bytes. (128 + word % 128) ∷ bytes) (alone bs more (word / 128) last on.1 ends (omega arith) high (inr some)) ∙ sym (shortest-large more word (omega arith)))

pub varint_alone : (word : ℕ) (bytes : List ℕ) → IsShortest bytes word → bytes ≡ varint word
unfolding varint
varint_alone word bytes s =
    let v = s.varint in
    v.whole ∙ alone v.front 4 word v.last v.goes_on v.ends v.size (v.value ∙ ap number_of v.whole) useful
  where
    one_byte : (front : List ℕ) (last : ℕ) → length (front ++ last ∷ []) ≡ 1 → front ≡ []
    one_byte [] last e = refl
    one_byte (b ∷ []) last e = absurd (omega arith)
    one_byte (b ∷ c ∷ bs) last e = absurd (omega arith)

    useful : (s.varint.front ≡ []) ⊎ (s.varint.last ≢ 0)
    useful = elim s.useful [ inl one ↦ inl (one_byte s.varint.front s.varint.last (sym (ap length s.varint.whole) ∙ one)) | inr some ↦ inr some ]

fewest : (front : List ℕ) (more word last : ℕ) → last < 128 → length front ≤ more → word ≡ number_of (front ++ last ∷ []) → length (shortest more word) ≤ length (front ++ last ∷ [])
unfolding number_of
fewest [] more word last ends size value = rw (shortest-small more word (omega arith)) (omega arith)
fewest (b ∷ bs) zero word last ends size value = absurd (omega arith)
fewest (b ∷ bs) (suc more) word last ends size value =
    elim (cases_lt word 128) [
      | inl small ↦ rw (shortest-small (suc more) word small) (omega arith)
      | inr large ↦
          let rest = fewest bs more (word / 128) last ends (omega arith) (omega arith) in
          rw (shortest-large more word large) (omega arith)
    ]

pub varint_fewest : (word : ℕ) (bytes : List ℕ) → IsVarint bytes word → length (varint word) ≤ length bytes
unfolding varint
varint_fewest word bytes v = rw (ap length v.whole) (fewest v.front 4 word v.last v.ends v.size (v.value ∙ ap number_of v.whole))

-- what was written is read
pub spelling_splits : (words : List ℕ) → ((k : ℕ) → get_or words k 0 < 2 ^ 32) → Splits (spelling words) words []
unfolding Splits spelling
spelling_splits [] fits = refl
spelling_splits (word ∷ words) fits = (varint word, spelling words, (varint_shortest word (fits 0)).varint, flat_map-cons varint word words, spelling_splits words (λ k. fits (suc k)))

-- ---- the varint of a word, by how many bytes it has

goes_on : (more word : ℕ) (bytes : List ℕ) → 128 ≤ word → bytes ≡ shortest more (word / 128) → (128 + word % 128) ∷ bytes ≡ shortest (suc more) word
goes_on more word bytes large rest = ap (λ bs. (128 + word % 128) ∷ bs) rest ∙ sym (shortest-large more word large)

ends : (more word : ℕ) → word < 128 → word ∷ [] ≡ shortest more word
ends more word small = sym (shortest-small more word small)

module _ (word : ℕ) where
  pub one : word < 128 → word ∷ [] ≡ varint word
  unfolding varint
  one small = ends 4 word small

  pub two : 128 ≤ word → word / 128 < 128 → (128 + word % 128) ∷ word / 128 ∷ [] ≡ varint word
  unfolding varint
  two first small = goes_on 3 word _ first (ends 3 (word / 128) small)

  pub three : 128 ≤ word → 128 ≤ word / 128 → word / 128 / 128 < 128
      → (128 + word % 128) ∷ (128 + word / 128 % 128) ∷ word / 128 / 128 ∷ [] ≡ varint word
  unfolding varint
  three first second small = goes_on 3 word _ first (goes_on 2 (word / 128) _ second (ends 2 (word / 128 / 128) small))

  pub four : 128 ≤ word → 128 ≤ word / 128 → 128 ≤ word / 128 / 128 → word / 128 / 128 / 128 < 128
      → (128 + word % 128) ∷ (128 + word / 128 % 128) ∷ (128 + word / 128 / 128 % 128) ∷ word / 128 / 128 / 128 ∷ [] ≡ varint word
  unfolding varint
  four first second third small =
      goes_on 3 word _ first (goes_on 2 (word / 128) _ second (goes_on 1 (word / 128 / 128) _ third (ends 1 (word / 128 / 128 / 128) small)))

  pub five : word < 2 ^ 32 → 128 ≤ word → 128 ≤ word / 128 → 128 ≤ word / 128 / 128 → 128 ≤ word / 128 / 128 / 128
      → (128 + word % 128) ∷ (128 + word / 128 % 128) ∷ (128 + word / 128 / 128 % 128) ∷ (128 + word / 128 / 128 / 128 % 128) ∷ word / 128 / 128 / 128 / 128 ∷ [] ≡ varint word
  unfolding varint
  five fits first second third fourth =
      goes_on 3 word _ first (goes_on 2 (word / 128) _ second (goes_on 1 (word / 128 / 128) _ third
      (goes_on 0 (word / 128 / 128 / 128) _ fourth (ends 0 (word / 128 / 128 / 128 / 128) (omega arith)))))
