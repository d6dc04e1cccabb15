-- Hexadecimal text and its value.
use Rattle.std.proofs.Common.{◌≡◌, ◌≢◌, inl, inr, ℕ, true, Option, Some, None, zero, suc, ◌+◌, ◌*◌, ◌/◌, ◌%◌, ◌^◌, ◌<◌, List, [], ◌∷◌, ◌++◌, length, drop, refl, ap, ◌∙◌, length-append, arith}
use Rattle.std.specs.Char.{digit_char}
use Rattle.std.specs.Str.Parse.{AllDigits, digits_value}
use Rattle.std.proofs.lemmas.Str.{digit_value-digit_char}
use Rattle.std.proofs.lemmas.Int.Digits.{digits_value_push, digits_push}
use Rattle.std.proofs.lemmas.List.{drop_all, drop-append-le}
use Rattle.std.specs.List.{list_all}
use Rattle.std.proofs.lemmas.Bool.{cases_Bool}
use Rattle.std.proofs.lemmas.Bool.Decides.{nat_tests, eqb_tells}
use Rattle.std.specs.Option.{SomeIff}
use Rattle.foz_words.specs.Hex.{hex_text, is_hex_digit, hex16_value}

low : (n : ℕ) → n % 16 < 16
low n = omega arith

pub length-hex_text : (count n : ℕ) → length (hex_text count n) ≡ count
unfolding hex_text
length-hex_text zero n = refl
length-hex_text (suc count) n = omega (arith, length-append (hex_text count (n / 16)) (digit_char (n % 16) ∷ []), length-hex_text count (n / 16))

pub all-hex_text : (count n : ℕ) → AllDigits 16 (hex_text count n)
unfolding hex_text
all-hex_text zero n = tt
all-hex_text (suc count) n =
    digits_push 16 (hex_text count (n / 16)) (digit_char (n % 16)) (all-hex_text count (n / 16)) (omega (arith, digit_value-digit_char (n % 16) (omega (arith, low n)), low n))

power_more : (count n : ℕ) → n < 16 ^ suc count → n / 16 < 16 ^ count
power_more count n lt = let more : 16 ^ suc count ≡ 16 ^ count * 16 = omega arith in omega (arith, more)

pub value-hex_text : (count n : ℕ) → n < 16 ^ count → digits_value 16 (hex_text count n) ≡ n
unfolding hex_text
value-hex_text zero n lt = omega arith
value-hex_text (suc count) n lt =
    omega (arith, digits_value_push 16 (hex_text count (n / 16)) (digit_char (n % 16)), value-hex_text count (n / 16) (power_more count n lt), digit_value-digit_char (n % 16) (omega (arith, low n)))

-- the last digits of a number
pub drop-hex_text : (front count whole n : ℕ) → whole ≡ count + front → drop front (hex_text whole n) ≡ hex_text count n
unfolding hex_text
drop-hex_text front zero whole n is = drop_all front (hex_text whole n) (omega (arith, length-hex_text whole n))
drop-hex_text front (suc count) zero n is = absurd (omega arith)
drop-hex_text front (suc count) (suc whole) n is =
    drop-append-le front (hex_text whole (n / 16)) (digit_char (n % 16) ∷ []) (omega (arith, length-hex_text whole (n / 16)))
    ∙ ap (λ (l : List ℕ). l ++ digit_char (n % 16) ∷ []) (drop-hex_text front count whole (n / 16) (omega arith))

-- whether all are digits, as a test
pub list_all-digits : (text : List ℕ) → AllDigits 16 text → list_all is_hex_digit text ≡ true
list_all-digits [] all = refl
list_all-digits (d ∷ text) all = grind (arith, nat_tests, list_all-digits text all.1, all.0)

pub AllDigits-from_list_all : (text : List ℕ) → list_all is_hex_digit text ≡ true → AllDigits 16 text
AllDigits-from_list_all [] all = tt
AllDigits-from_list_all (d ∷ text) all = (grind (arith, nat_tests), AllDigits-from_list_all text (grind (arith, nat_tests)))

-- what sixteen bytes are read as
pub hex16_value_is : (text : List ℕ) (r : Option ℕ) → length text ≡ 16 → SomeIff r (AllDigits 16 text) (digits_value 16 text) → r ≡ hex16_value text
unfolding hex16_value
hex16_value_is text None long is = elim (cases_Bool (list_all is_hex_digit text)) [
  | inl all ↦ absurd (is (AllDigits-from_list_all text all))
  | inr not ↦ rw (long, not)
]
hex16_value_is text (Some n) long is = rw (long, list_all-digits text is.0) (ap Some is.1)

-- other texts spell no hash
pub hex16_value_none : (text : List ℕ) → length text ≢ 16 → None ≡ hex16_value text
unfolding hex16_value
hex16_value_none text other = elim (eqb_tells (length text) 16) [
  | inl same ↦ absurd (other same.1)
  | inr not ↦ rw not.0
]

-- the digits that a hash is written in are read as that hash
pub hex16_value-hex_text : (n : ℕ) → n < 2 ^ 64 → hex16_value (hex_text 16 n) ≡ Some n
unfolding hex16_value
hex16_value-hex_text n lt =
    rw (length-hex_text 16 n, list_all-digits (hex_text 16 n) (all-hex_text 16 n), value-hex_text 16 n (omega (arith, lt)))
