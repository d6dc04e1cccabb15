-- The lower-case spelling of a head is one of its spellings.
use Rattle.std.proofs.Common.{◌≡◌, ℕ, zero, suc, ◌^◌, ◌<◌, List, ◌++◌, length, take, drop, replicate, refl, ap, ◌∙◌, append_assoc, length-append, arith}
use Rattle.std.specs.Str.Parse.{AllDigits, digits_value}
use Rattle.std.proofs.lemmas.List.{take_at, drop_at, drop-append-le}
use Rattle.foz_words.proofs.Words.{length-le32}
use Rattle.foz_words.specs.Bytes.{le32}
use Rattle.foz_words.specs.Hex.{hex_text}
use Rattle.foz_words.proofs.HexText.{length-hex_text, all-hex_text, value-hex_text, drop-hex_text}
use Rattle.foz_words.specs.declared.key.Key.{Key}
use Rattle.foz_entry.proofs.Digits.{AllDigits-append}
use Rattle.foz_entry.specs.Whole.{IsNameOf, IsWhole}
use Rattle.foz_entry.specs.Spelling.{lower_name, stored_head, head_text}

zeros : (count : ℕ) → AllDigits 16 (replicate count 48)
zeros zero = tt
zeros (suc count) = (omega arith, zeros count)

pub is_lower_name : (key : Key) → key.tag < 2 ^ 32 → key.hash < 2 ^ 64 → IsNameOf (lower_name key) key
unfolding lower_name
is_lower_name key tag hash =
    let T = hex_text 16 key.tag in
    let H = hex_text 16 key.hash in
    let behind : drop 16 (lower_name key) ≡ drop 8 (T ++ H) = refl in
    let split : drop 8 (T ++ H) ≡ hex_text 8 key.tag ++ H =
    drop-append-le 8 T H (omega (arith, length-hex_text 16 key.tag)) ∙ ap (λ (l : List ℕ). l ++ H) (drop-hex_text 8 8 16 key.tag refl) in
    record {
      long = omega (arith, length-append (replicate 8 48) (T ++ H), length-append T H, length-hex_text 16 key.tag, length-hex_text 16 key.hash);
      first = refl;
      digits = AllDigits-append 16 (replicate 8 48) (T ++ H) (zeros 8) (AllDigits-append 16 T H (all-hex_text 16 key.tag) (all-hex_text 16 key.hash));
      tag = ap (λ (l : List ℕ). digits_value 16 (take 8 l)) (behind ∙ split) ∙ ap (digits_value 16) (take_at (hex_text 8 key.tag) H 8 (length-hex_text 8 key.tag)) ∙ value-hex_text 8 key.tag tag;
      hash = ap (λ (l : List ℕ). digits_value 16 (drop 8 l)) (behind ∙ split) ∙ ap (digits_value 16) (drop_at (hex_text 8 key.tag) H 8 (length-hex_text 8 key.tag)) ∙ value-hex_text 16 key.hash hash;
    }

-- a head of a stored entry and its payload, in lower case, are a whole entry
pub spelled_whole : (key : Key) (crc : ℕ) (payload rest : List ℕ) → key.tag < 2 ^ 32 → key.hash < 2 ^ 64 → crc < 2 ^ 32 → length payload < 2 ^ 32
    → IsWhole (head_text (stored_head key crc (length payload)) ++ (payload ++ rest)) (stored_head key crc (length payload)) payload rest
spelled_whole key crc payload rest tag hash fits short = record {
  name = lower_name key;
  begins = record {
    named = is_lower_name key tag hash;
    numbers = record { size = short; format = omega arith; crc = fits; uncompressed = short };
    laid_out = simp append_assoc;
    total = refl;
  };
  sized = refl;
}

pub length-head_text : (key : Key) (crc size : ℕ) → key.tag < 2 ^ 32 → key.hash < 2 ^ 64 → length (head_text (stored_head key crc size)) ≡ 56
length-head_text key crc size tag hash =
    let a = le32 size in
    let b = le32 crc ++ a in
    let d = le32 1 ++ b in
    omega (arith, length-append (lower_name key) (le32 size ++ d), (is_lower_name key tag hash).long, length-append (le32 size) d, length-append (le32 1) b, length-append (le32 crc) a, length-le32 size, length-le32 1, length-le32 crc)
