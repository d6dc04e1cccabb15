-- The compact text of a JSON value has no zero byte.
use Rattle.std.proofs.Common.{◌≡◌, ℕ, zero, suc, ◌+◌, ◌/◌, ◌%◌, ◌<◌, ◌≤◌, Bool, true, false, cond, eqb, ltb, List, [], ◌∷◌, ◌++◌, length, drop, refl, sym, ap, ◌∙◌, add-one, arith}
use Rattle.std.specs.Prelude.{pos, negsuc, not, ⊤}
use Rattle.std.specs.Char.{digit_char}
use Rattle.std.specs.Fmt.{digits, digits_onto, decimal, digit_glyph}
use Rattle.std.proofs.lemmas.Bool.{ne_eqb, ltb-true, ltb-false}
use Rattle.std.proofs.lemmas.List.Concat.{flat_map-cons}
use Rattle.std.proofs.lemmas.List.Sums.{take_while-cons}
use Rattle.json.specs.Print.{escape_letter, escape_byte, escape, quoted}
use Rattle.serde_json.specs.Data.{Num, unsigned, negative, float, Data, null, boolean, number, string, array, object, Items, no_items, item, Members, no_members, member}
use Rattle.serde_json.specs.Written.{number_text, compact_text, items_text, members_text, comma_if}
use Rattle.foz_payload.specs.Parts.{is_zero, has_zero, json_part, behind_zero}

abbrev pub NoZero : List ℕ → Type 0
NoZero [] = ⊤
NoZero (byte ∷ bytes) = (is_zero byte ≡ false) × NoZero bytes

both : (front back : List ℕ) → NoZero front → NoZero back → NoZero (front ++ back)
both [] back f b = b
both (byte ∷ front) back f b = (f.0, both front back f.1 b)

above : (byte : ℕ) → 0 < byte → is_zero byte ≡ false
above byte some = ne_eqb byte 0 (λ e. omega arith)

-- ---- texts

digit_some : (digit : ℕ) (low : Bool) → 0 < cond low (48 + digit) (87 + digit)
digit_some digit true = omega arith
digit_some digit false = omega arith

code_free : (byte : ℕ) → NoZero (92 ∷ 117 ∷ 48 ∷ 48 ∷ digit_char (byte / 16) ∷ digit_char (byte % 16) ∷ [])
code_free byte =
    (refl, (refl, (refl, (refl, (above (digit_char (byte / 16)) (digit_some (byte / 16) (ltb (byte / 16) 10)), (above (digit_char (byte % 16)) (digit_some (byte % 16) (ltb (byte % 16) 10)), tt))))))

byte_cases : (byte letter : ℕ) (short low : Bool) → short ≡ ltb 0 letter → low ≡ ltb byte 32
    → NoZero (cond short (92 ∷ letter ∷ []) (cond low (92 ∷ 117 ∷ 48 ∷ 48 ∷ digit_char (byte / 16) ∷ digit_char (byte % 16) ∷ []) (byte ∷ [])))
byte_cases byte letter true low is_short is_low = (refl, (above letter (ltb-true 0 letter (sym is_short)), tt))
byte_cases byte letter false true is_short is_low = code_free byte
byte_cases byte letter false false is_short is_low = let large : 32 ≤ byte = ltb-false byte 32 (sym is_low) in (above byte (omega arith), tt)

byte_free : (byte : ℕ) → NoZero (escape_byte byte)
unfolding escape_byte
byte_free byte = byte_cases byte (escape_letter byte) (ltb 0 (escape_letter byte)) (ltb byte 32) refl refl

escape_free : (text : List ℕ) → NoZero (escape text)
escape_free [] = tt
escape_free (byte ∷ text) = rw (flat_map-cons escape_byte byte text) (both (escape_byte byte) (escape text) (byte_free byte) (escape_free text))

quoted_free : (text : List ℕ) → NoZero (quoted text)
quoted_free text = (refl, both (escape text) (34 ∷ []) (escape_free text) (refl, tt))

-- ---- numbers

glyph_free : (digit : ℕ) → is_zero (digit_glyph false digit) ≡ false
glyph_free digit = above (digit_glyph false digit) (digit_some digit (ltb digit 10))

onto_free : (more n : ℕ) (behind : List ℕ) → NoZero behind → NoZero (digits_onto more 10 false n behind)
onto_free zero n behind free = free
onto_free (suc more) n behind free =
    elim (eqb (n / 10) 0) as (λ b. NoZero (cond b (digit_glyph false (n % 10) ∷ behind) (digits_onto more 10 false (n / 10) (digit_glyph false (n % 10) ∷ behind)))) [
      | true ↦ (glyph_free (n % 10), free)
      | false ↦ onto_free more (n / 10) (digit_glyph false (n % 10) ∷ behind) (glyph_free (n % 10), free)
    ]

decimal_free : (n : ℕ) → NoZero (decimal n)
unfolding digits
decimal_free n = onto_free 64 n [] tt

number_free : (n : Num) → NoZero (number_text n)
number_free (unsigned n) = decimal_free n
number_free (negative (pos n)) = decimal_free n
number_free (negative (negsuc n)) = (refl, decimal_free (suc n))
number_free (float x) = tt

-- ---- values

boolean_free : (b : Bool) → NoZero (compact_text (boolean b))
boolean_free true = (refl, (refl, (refl, (refl, tt))))
boolean_free false = (refl, (refl, (refl, (refl, (refl, tt)))))

comma_free : (later : Bool) → NoZero (comma_if later)
comma_free true = (refl, tt)
comma_free false = tt

mutual
  pub text_free : (d : Data) → NoZero (compact_text d)
  text_free null = (refl, (refl, (refl, (refl, tt))))
  text_free (boolean b) = boolean_free b
  text_free (number n) = number_free n
  text_free (string text) = quoted_free text
  text_free (array ds) = (refl, items_free false ds)
  text_free (object ms) = (refl, members_free false ms)

  items_free : (later : Bool) (ds : Items) → NoZero (items_text later ds)
  items_free later no_items = (refl, tt)
  items_free later (item d ds) = both (comma_if later) (compact_text d ++ items_text true ds) (comma_free later) (both (compact_text d) (items_text true ds) (text_free d) (items_free true ds))

  members_free : (later : Bool) (ms : Members) → NoZero (members_text later ms)
  members_free later no_members = (refl, tt)
  members_free later (member k d ms) =
      both (comma_if later) (quoted k ++ 58 ∷ (compact_text d ++ members_text true ms)) (comma_free later)
      (both (quoted k) (58 ∷ (compact_text d ++ members_text true ms)) (quoted_free k) (refl, both (compact_text d) (members_text true ms) (text_free d) (members_free true ms)))

-- ---- the parts of a payload

-- without a zero byte all is JSON
pub all_json : (text : List ℕ) → NoZero text → json_part text ≡ text
unfolding json_part
all_json [] free = refl
all_json (byte ∷ text) free = take_while-cons (λ b. not (is_zero b)) byte text ∙ rw free.0 (ap (λ bytes. byte ∷ bytes) (all_json text free.1))

pub front_json : (text behind : List ℕ) → NoZero text → json_part (text ++ 0 ∷ behind) ≡ text
unfolding json_part
front_json [] behind free = take_while-cons (λ b. not (is_zero b)) 0 behind
front_json (byte ∷ text) behind free = take_while-cons (λ b. not (is_zero b)) byte (text ++ 0 ∷ behind) ∙ rw free.0 (ap (λ bytes. byte ∷ bytes) (front_json text behind free.1))

pub zero_there : (text behind : List ℕ) → NoZero text → has_zero (text ++ 0 ∷ behind) ≡ true
zero_there [] behind free = refl
zero_there (byte ∷ text) behind free = rw free.0 (zero_there text behind free.1)

after_front : (text behind : List ℕ) → drop (length text + 1) (text ++ 0 ∷ behind) ≡ behind
after_front [] behind = refl
after_front (byte ∷ text) behind = rw add-one (rw add-one at (after_front text behind))

pub behind_front : (text behind : List ℕ) → NoZero text → behind_zero (text ++ 0 ∷ behind) ≡ behind
unfolding behind_zero
behind_front text behind free = rw (front_json text behind free) (after_front text behind)
