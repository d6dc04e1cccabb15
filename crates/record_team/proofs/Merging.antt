-- Answers of several threads are put together, line by line.
use Rattle.std.proofs.Common.{◌≡◌, ◌≢◌, ◌⊎◌, inl, inr, ℕ, ◌+◌, ◌-◌, ◌%◌, ◌<◌, ◌≤◌, Bool, true, false, if◌then◌else◌, List, [], ◌∷◌, ◌++◌, get_or, filter, Option, Some, None, refl, sym, ap, ◌∙◌, subst, append-nil, append_assoc, mod-lt, arith}
use Rattle.std.specs.Prelude.{option_to_list}
use Rattle.std.proofs.lemmas.Bool.{cases_eq}
use Rattle.std.proofs.lemmas.Bool.Decides.{nat_tests}
use Rattle.record_words.specs.declared.answered.Answered.{Answered}
use Rattle.record_team.specs.Told.{is_of}
use Rattle.record_team.specs.Merged.{Rise, IsTaken}

module _ {Cause : Type 0} where
  pub rise_from : (low start high : ℕ) (xs : List (Answered Cause)) → start ≤ low → Rise low high xs → Rise start high xs
  rise_from low start high [] le r = tt
  rise_from low start high (x ∷ xs) le r = (let here = r.0 in omega arith, r.1, r.2)

  first_rises : (p : Answered Cause → Bool) (xs : List (Answered Cause)) (low high : ℕ) (b : Answered Cause) (bs : List (Answered Cause)) → Rise low high xs → filter p xs ≡ b ∷ bs → low ≤ b.line
  first_rises p [] low high b bs r e = absurd cc
  first_rises p (x ∷ xs) low high b bs r e = by_test (p x) e (λ left. first_rises p xs (x.line + 1) high b bs r.2 left)
    where
      by_test : (v : Bool) → (if v then x ∷ filter p xs else filter p xs) ≡ b ∷ bs → (filter p xs ≡ b ∷ bs → x.line + 1 ≤ b.line) → low ≤ b.line
      by_test true e further = let same : x ≡ b = cc in subst (λ (z : Answered Cause). low ≤ z.line) same r.0
      by_test false e further = let later = further e in let here = r.0 in omega arith

  none_left : (n : ℕ) (xs : List (Answered Cause)) → Rise n n xs → xs ≡ []
  none_left n [] r = refl
  none_left n (x ∷ xs) r = let low = r.0 in let high = r.1 in absurd (omega arith)

  pub filter_kept : (p : Answered Cause → Bool) (x : Answered Cause) (xs : List (Answered Cause)) → p x ≡ true → filter p (x ∷ xs) ≡ x ∷ filter p xs
  filter_kept p x xs e = rw e

  pub filter_left : (p : Answered Cause → Bool) (x : Answered Cause) (xs : List (Answered Cause)) → p x ≡ false → filter p (x ∷ xs) ≡ filter p xs
  filter_left p x xs e = rw e

  -- of all answers these are in order, and the others wait with their threads
  pub record HasMerged (threads number count : ℕ) (whole : List (Answered Cause)) (told : List (List (Answered Cause))) (all : List (Answered Cause)) : Type 0 where
    pub rest : List (Answered Cause)
    pub cut : whole ≡ all ++ rest
    pub rise : Rise (number + 1) (count + 1) rest
    pub parts : (thread : ℕ) → thread < threads → get_or told thread [] ≡ filter (is_of threads thread) rest

  module _ (threads number count : ℕ) (some : 0 < threads) (whole : List (Answered Cause)) (told later : List (List (Answered Cause))) (all : List (Answered Cause))
      (others : (thread : ℕ) → thread ≢ number % threads → get_or later thread [] ≡ get_or told thread []) where
    all_same : get_or later (number % threads) [] ≡ get_or told (number % threads) [] → (thread : ℕ) → get_or later thread [] ≡ get_or told thread []
    all_same same thread = by_case (cases_eq thread (number % threads))
      where
        by_case : (thread ≡ (number % threads)) ⊎ (thread ≢ (number % threads)) → get_or later thread [] ≡ get_or told thread []
        by_case (inl is) = subst (λ (z : ℕ). get_or later z [] ≡ get_or told z []) (sym is) same
        by_case (inr other) = others thread other

    -- no answer to this line is left
    untaken : (rest : List (Answered Cause)) → whole ≡ all ++ rest → Rise (number + 1 + 1) (count + 1) rest → ((thread : ℕ) → thread < threads → get_or told thread [] ≡ filter (is_of threads thread) rest)
        → (taken : Option (Answered Cause)) → IsTaken (number + 1) (get_or told (number % threads) []) taken (get_or later (number % threads) []) → HasMerged threads (number + 1) count whole later (all ++ option_to_list taken)
    untaken rest cut rise parts (Some b) take =
        let first = first_rises (is_of threads (number % threads)) rest (number + 1 + 1) (count + 1) b (get_or later (number % threads) []) rise (sym (parts (number % threads) (mod-lt number some)) ∙ take.0) in
        let at = take.1 in
        absurd (omega arith)
    untaken rest cut rise parts None take = record {
      rest = rest;
      cut = cut ∙ ap (λ (l : List (Answered Cause)). l ++ rest) (sym (append-nil all));
      rise = rise;
      parts = λ thread below. all_same take.0 thread ∙ parts thread below;
    }

    -- the next answer is to this line
    taken_first : (a : Answered Cause) (rest : List (Answered Cause)) → a.line ≡ number + 1 → whole ≡ all ++ a ∷ rest → Rise (a.line + 1) (count + 1) rest → ((thread : ℕ) → thread < threads → get_or told thread [] ≡ filter (is_of threads thread) (a ∷ rest))
        → (taken : Option (Answered Cause)) → IsTaken (number + 1) (get_or told (number % threads) []) taken (get_or later (number % threads) []) → HasMerged threads (number + 1) count whole later (all ++ option_to_list taken)
    taken_first a rest line cut rise parts taken take = by_taken taken take
      where
        number_is : a.line - 1 ≡ number
        number_is = omega arith

        mine : is_of threads (number % threads) a ≡ true
        mine = let e : (a.line - 1) % threads ≡ number % threads = ap (λ (z : ℕ). z % threads) number_is in grind (arith, nat_tests)

        here : get_or told (number % threads) [] ≡ a ∷ filter (is_of threads (number % threads)) rest
        here = parts (number % threads) (mod-lt number some) ∙ filter_kept (is_of threads (number % threads)) a rest mine

        by_taken : (taken : Option (Answered Cause)) → IsTaken (number + 1) (get_or told (number % threads) []) taken (get_or later (number % threads) []) → HasMerged threads (number + 1) count whole later (all ++ option_to_list taken)
        by_taken None take = absurd (take.1 a (filter (is_of threads (number % threads)) rest) here line)
        by_taken (Some b) take =
            let e : b ∷ get_or later (number % threads) [] ≡ a ∷ filter (is_of threads (number % threads)) rest = sym take.0 ∙ here in
            let same : a ≡ b = cc in
            let left : get_or later (number % threads) [] ≡ filter (is_of threads (number % threads)) rest = cc in record {
              rest = rest;
              cut = cut ∙ (ap (λ (z : Answered Cause). all ++ z ∷ rest) same ∙ sym (append_assoc all (b ∷ []) rest));
              rise = subst (λ (z : ℕ). Rise (z + 1) (count + 1) rest) line rise;
              parts = λ thread below. by_case thread below left (cases_eq thread (number % threads));
            }
          where
            by_case : (thread : ℕ) → thread < threads → get_or later (number % threads) [] ≡ filter (is_of threads (number % threads)) rest → (thread ≡ (number % threads)) ⊎ (thread ≢ (number % threads)) → get_or later thread [] ≡ filter (is_of threads thread) rest
            by_case thread below left (inl is) = subst (λ (z : ℕ). get_or later z [] ≡ filter (is_of threads z) rest) (sym is) left
            by_case thread below left (inr other) =
                let e : (a.line - 1) % threads ≡ number % threads = ap (λ (z : ℕ). z % threads) number_is in
                let not_mine : is_of threads thread a ≡ false = grind (arith, nat_tests) in
                others thread other ∙ (parts thread below ∙ filter_left (is_of threads thread) a rest not_mine)

    pub merge_step : (taken : Option (Answered Cause)) → IsTaken (number + 1) (get_or told (number % threads) []) taken (get_or later (number % threads) []) → HasMerged threads number count whole told all → HasMerged threads (number + 1) count whole later (all ++ option_to_list taken)
    merge_step taken take before = by_rest before.rest before.cut before.rise before.parts
      where
        by_line : (a : Answered Cause) (rest : List (Answered Cause)) → whole ≡ all ++ a ∷ rest → Rise (number + 1) (count + 1) (a ∷ rest) → ((thread : ℕ) → thread < threads → get_or told thread [] ≡ filter (is_of threads thread) (a ∷ rest)) → (a.line ≡ number + 1) ⊎ (a.line ≢ number + 1)
            → HasMerged threads (number + 1) count whole later (all ++ option_to_list taken)
        by_line a rest cut rise parts (inl line) = taken_first a rest line cut rise.2 parts taken take
        by_line a rest cut rise parts (inr other) = untaken (a ∷ rest) cut (let low = rise.0 in omega arith, rise.1, rise.2) parts taken take

        by_rest : (rest : List (Answered Cause)) → whole ≡ all ++ rest → Rise (number + 1) (count + 1) rest → ((thread : ℕ) → thread < threads → get_or told thread [] ≡ filter (is_of threads thread) rest) → HasMerged threads (number + 1) count whole later (all ++ option_to_list taken)
        by_rest [] cut rise parts = untaken [] cut tt parts taken take
        by_rest (a ∷ rest) cut rise parts = by_line a rest cut rise parts (cases_eq a.line (number + 1))

  pub merged_at_end : (threads count : ℕ) (whole : List (Answered Cause)) (told : List (List (Answered Cause))) (all : List (Answered Cause)) → HasMerged threads count count whole told all → all ≡ whole
  merged_at_end threads count whole told all m = sym (m.cut ∙ (ap (λ (l : List (Answered Cause)). all ++ l) (none_left (count + 1) m.rest m.rise) ∙ append-nil all))
