-- Numbers of decimal digits.
use Rattle.std.proofs.Common.{◌≡◌, ◌≢◌, ℕ, ◌+◌, ◌^◌, ◌<◌, ◌≤◌, Bool, true, false, ◌==◌, ◌&&◌, nat_le, List, [], ◌∷◌, length, get_or, Option, Some, None, Result, Ok, Err, inl, inr, refl, sym, subst, ap, ◌∙◌, arith}
use Rattle.std.specs.Char.{is_ascii_digit}
use Rattle.std.specs.List.{list_all}
use Rattle.std.specs.Str.Parse.{AllDigits, IsNumeral, digits_value, without_leading_plus, ParsesUnsigned}
use Rattle.std.proofs.lemmas.Bool.Decides.{nat_tests}
use Rattle.foz_args.specs.Command.{is_number, number_upto}

pub digits_of : (word : List ℕ) → list_all is_ascii_digit word ≡ true → AllDigits 10 word
digits_of [] all = tt
digits_of (d ∷ word) all = (grind (arith, nat_tests), digits_of word (grind (arith, nat_tests)))

pub numeral_of : (word : List ℕ) → is_number word ≡ true → IsNumeral 10 word
numeral_of word is = (grind (arith, nat_tests), digits_of word (grind (arith, nat_tests)))

pub no_plus : (word : List ℕ) → is_number word ≡ true → without_leading_plus word ≡ word
no_plus [] is = refl
no_plus (d ∷ word) is = let other : (d == 43) ≡ false = grind (arith, nat_tests) in rw other

-- of one to twenty bytes the digits alone decide
number_bytes : (word : List ℕ) (r : Bool) → (length word == 0) ≡ false → length word ≤ 20 → r ≡ list_all is_ascii_digit word → r ≡ is_number word
number_bytes word r some few is =
    let low : nat_le 1 (length word) ≡ true = grind (arith, nat_tests) in
    let high : nat_le (length word) 20 ≡ true = grind (arith, nat_tests) in
    rw (low, high) is

pub number_test : (word bytes : List ℕ) (empty r : Bool) → bytes ≡ word → empty ≡ (length bytes == 0) → empty ≡ false → length bytes ≤ 20 → r ≡ list_all is_ascii_digit bytes → r ≡ is_number word
number_test word bytes empty r same tests some few is = subst (λ (l : List ℕ). r ≡ is_number l) same (number_bytes bytes r (sym tests ∙ some) few is)

pub no_number : (most : ℕ) (word : List ℕ) → is_number word ≡ false → None ≡ number_upto most word
unfolding number_upto
no_number most word is = rw is

-- a number that std reads, at most the greatest one wanted
pub within_parsed : (most : ℕ) (word : List ℕ) → is_number word ≡ true → (n : ℕ) → n ≡ digits_value 10 (without_leading_plus word) → n ≤ most → Some n ≡ number_upto most word
unfolding number_upto
within_parsed most word is n value le =
    let value : n ≡ digits_value 10 word = value ∙ ap (digits_value 10) (no_plus word is) in
    let test : nat_le (digits_value 10 word) most ≡ true = grind (arith, nat_tests) in
    rw (is, test) (ap Some value)

-- one above it
pub above_parsed : (most : ℕ) (word : List ℕ) → is_number word ≡ true → (n : ℕ) → n ≡ digits_value 10 (without_leading_plus word) → most < n → None ≡ number_upto most word
unfolding number_upto
above_parsed most word is n value lt =
    let value : n ≡ digits_value 10 word = value ∙ ap (digits_value 10) (no_plus word is) in
    let test : nat_le (digits_value 10 word) most ≡ false = grind (arith, nat_tests) in
    rw (is, test)

-- one that std refuses is too great
pub none_parsed : (most : ℕ) (word : List ℕ) → is_number word ≡ true → most < 2 ^ 64
    → ¬ (IsNumeral 10 (without_leading_plus word) × (digits_value 10 (without_leading_plus word) < 2 ^ 64)) → None ≡ number_upto most word
unfolding number_upto
none_parsed most word is fits refused =
    let plain = no_plus word is in
    let refused' : digits_value 10 word < 2 ^ 64 → ⊥ = λ lt. refused (rw plain (numeral_of word is), rw plain lt) in
    let test : nat_le (digits_value 10 word) most ≡ false = grind (arith, nat_tests) in
    rw (is, test)
