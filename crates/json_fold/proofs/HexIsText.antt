-- Hexadecimal digits are text.
use Rattle.std.proofs.Common.{ℕ, zero, suc, ◌/◌, ◌%◌, ◌<◌, arith}
use Rattle.std.specs.Str.{IsAscii, IsUtf8}
use Rattle.std.specs.Char.{digit_char}
use Rattle.std.proofs.lemmas.Bool.Decides.{nat_tests}
use Rattle.std.proofs.lemmas.Str.{IsUtf8-from_ascii}
use Rattle.std.proofs.lemmas.Str.Ascii.{IsAscii-nil, IsAscii-push}
use Rattle.foz_words.specs.Hex.{hex_text}

low : (n : ℕ) → n % 16 < 16
low n = omega arith

digit_is_ascii : (d : ℕ) → d < 16 → digit_char d < 128
digit_is_ascii d small = grind (arith, nat_tests, small)

hex_is_ascii : (count n : ℕ) → IsAscii (hex_text count n)
unfolding hex_text
hex_is_ascii zero n = IsAscii-nil
hex_is_ascii (suc count) n = IsAscii-push (hex_text count (n / 16)) (digit_char (n % 16)) (hex_is_ascii count (n / 16)) (digit_is_ascii (n % 16) (low n))

pub hex_is_text : (count n : ℕ) → IsUtf8 (hex_text count n)
hex_is_text count n = IsUtf8-from_ascii (hex_text count n) (hex_is_ascii count n)
