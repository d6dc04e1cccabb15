-- Numbers as hexadecimal text.
use Rattle.std.specs.Prelude.{ℕ, zero, suc, ◌/◌, ◌%◌, ◌==◌, ◌&&◌, nat_lt, Bool, if◌then◌else◌, List, [], ◌∷◌, ◌++◌, length, Option, Some, None}
use Rattle.std.specs.Char.{digit_char, digit_value}
use Rattle.std.specs.List.{list_all}
use Rattle.std.specs.Str.Parse.{digits_value}

-- a number in so many lower-case hexadecimal digits, with leading zeros
unfoldable pub hex_text : ℕ → ℕ → List ℕ
hex_text zero n = []
hex_text (suc count) n = hex_text count (n / 16) ++ digit_char (n % 16) ∷ []

-- a hexadecimal digit of either case
abbrev pub is_hex_digit : ℕ → Bool
is_hex_digit byte = nat_lt (digit_value byte) 16

-- the number that sixteen hexadecimal digits of either case spell
unfoldable pub hex16_value : List ℕ → Option ℕ
hex16_value text = if (length text == 16) && list_all is_hex_digit text then Some (digits_value 16 text) else None
