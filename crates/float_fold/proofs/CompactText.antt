-- The compact text of a JSON value without floats has no float token.
use Rattle.std.proofs.Common.{ℕ, zero, suc, ◌≡◌, ◌≢◌, ◌+◌, ◌/◌, ◌%◌, ◌<◌, ◌≤◌, Bool, true, false, ◌||◌, cond, eqb, ltb, List, [], ◌∷◌, ◌++◌, refl, ap, sym, ◌∙◌, append_assoc, arith}
use Rattle.std.specs.Prelude.{pos, negsuc}
use Rattle.std.specs.Char.{digit_char}
use Rattle.std.specs.Fmt.{digits, digits_onto, decimal, digit_glyph}
use Rattle.std.specs.List.{list_any, take_while, AllByRecursion}
use Rattle.std.proofs.lemmas.Bool.{or_parts, lt-ltb, ltb-true, ltb-false, le-leb, ne_eqb, eqb-true}
use Rattle.std.proofs.lemmas.List.{append-nil}
use Rattle.std.proofs.lemmas.List.Concat.{flat_map-cons}
use Rattle.std.proofs.lemmas.List.Sums.{take_while-cons}
use Rattle.json.specs.Print.{escape_letter, escape_byte, escape, quoted}
use Rattle.serde_json.specs.Data.{Num, unsigned, negative, float, Data, null, boolean, number, string, array, object, Items, no_items, item, Members, no_members, member}
use Rattle.serde_json.specs.Find.{is_float}
use Rattle.serde_json.specs.Written.{has_float, items_have_float, members_have_float, number_text, compact_text, items_text, members_text, comma_if}
use Rattle.float_fold.specs.Pieces.{begins_number, is_float_mark, goes_on_number, text_rest, piece_rest}
use Rattle.float_fold.specs.Folding.{has_float_token}
use Rattle.float_fold.proofs.Plain.{IsPlain, stops, none_plain, plain_piece, plain_byte, stopped}

-- ---- texts

-- the text is not over within these bytes
record GoesOn (front : List ℕ) : Type 0 where
  over : (bytes : List ℕ) → text_rest false (front ++ bytes) ≡ front ++ text_rest false bytes

pair_goes_on : (letter : ℕ) → GoesOn (92 ∷ letter ∷ [])
unfolding text_rest
pair_goes_on letter = record { over = λ bytes. refl }

byte_goes_on : (byte : ℕ) → eqb byte 34 ≡ false → eqb byte 92 ≡ false → GoesOn (byte ∷ [])
unfolding text_rest
byte_goes_on byte quote slash = record { over = λ bytes. rw (quote, slash) refl }

both_go_on : (front more : List ℕ) → GoesOn front → GoesOn more → GoesOn (front ++ more)
both_go_on front more f m = record { over = λ bytes. ap (text_rest false) (append_assoc front more bytes) ∙ (f.over (more ++ bytes) ∙ (ap (λ bs. front ++ bs) (m.over bytes) ∙ sym (append_assoc front more (text_rest false bytes)))) }

-- a digit of sixteen is neither a quote nor a backslash
glyph_apart : (digit : ℕ) (low : Bool) → low ≡ ltb digit 10 → digit < 16 → (cond low (48 + digit) (87 + digit) ≢ 34) × (cond low (48 + digit) (87 + digit) ≢ 92)
glyph_apart digit true small lt = let below : digit < 10 = ltb-true digit 10 (sym small) in (λ e. omega arith, λ e. omega arith)
glyph_apart digit false small lt = let above : 10 ≤ digit = ltb-false digit 10 (sym small) in (λ e. omega arith, λ e. omega arith)

digit_goes_on : (digit : ℕ) → digit < 16 → GoesOn (digit_char digit ∷ [])
digit_goes_on digit lt =
    let apart = glyph_apart digit (ltb digit 10) refl lt in
    byte_goes_on (digit_char digit) (ne_eqb (digit_char digit) 34 apart.0) (ne_eqb (digit_char digit) 92 apart.1)

code_goes_on : (byte : ℕ) → byte < 32 → GoesOn (92 ∷ 117 ∷ 48 ∷ 48 ∷ digit_char (byte / 16) ∷ digit_char (byte % 16) ∷ [])
code_goes_on byte lt =
    both_go_on (92 ∷ 117 ∷ []) (48 ∷ 48 ∷ digit_char (byte / 16) ∷ digit_char (byte % 16) ∷ []) (pair_goes_on 117)
    (both_go_on (48 ∷ []) (48 ∷ digit_char (byte / 16) ∷ digit_char (byte % 16) ∷ []) (byte_goes_on 48 refl refl)
    (both_go_on (48 ∷ []) (digit_char (byte / 16) ∷ digit_char (byte % 16) ∷ []) (byte_goes_on 48 refl refl)
    (both_go_on (digit_char (byte / 16) ∷ []) (digit_char (byte % 16) ∷ []) (digit_goes_on (byte / 16) (omega arith)) (digit_goes_on (byte % 16) (omega arith)))))

-- a byte with no short escape is neither a quote nor a backslash
letter_apart : (byte other : ℕ) (quote slash : Bool) → quote ≡ eqb byte 34 → slash ≡ eqb byte 92 → ltb 0 (cond (quote || slash) byte other) ≡ false → (eqb byte 34 ≡ false) × (eqb byte 92 ≡ false)
letter_apart byte other true slash quoted slashed none = let same : byte ≡ 34 = eqb-true byte 34 (sym quoted) in let zero : byte ≤ 0 = ltb-false 0 byte none in absurd (omega arith)
letter_apart byte other false true quoted slashed none = let same : byte ≡ 92 = eqb-true byte 92 (sym slashed) in let zero : byte ≤ 0 = ltb-false 0 byte none in absurd (omega arith)
letter_apart byte other false false quoted slashed none = (sym quoted, sym slashed)

escape_cases : (byte letter : ℕ) (short low : Bool) → low ≡ ltb byte 32 → (short ≡ false → (eqb byte 34 ≡ false) × (eqb byte 92 ≡ false))
    → GoesOn (cond short (92 ∷ letter ∷ []) (cond low (92 ∷ 117 ∷ 48 ∷ 48 ∷ digit_char (byte / 16) ∷ digit_char (byte % 16) ∷ []) (byte ∷ [])))
escape_cases byte letter true low is_low apart = pair_goes_on letter
escape_cases byte letter false true is_low apart = code_goes_on byte (ltb-true byte 32 (sym is_low))
escape_cases byte letter false false is_low apart = let both = apart refl in byte_goes_on byte both.0 both.1

escape_byte_goes_on : (byte : ℕ) → GoesOn (escape_byte byte)
unfolding escape_byte
escape_byte_goes_on byte =
    escape_cases byte (escape_letter byte) (ltb 0 (escape_letter byte)) (ltb byte 32) refl
    (letter_apart byte (cond (eqb byte 8) 98 (cond (eqb byte 12) 102 (cond (eqb byte 10) 110 (cond (eqb byte 13) 114 (cond (eqb byte 9) 116 0))))) (eqb byte 34) (eqb byte 92) refl refl)

none_goes_on : GoesOn []
none_goes_on = record { over = λ bytes. refl }

escape_goes_on : (bytes : List ℕ) → GoesOn (escape bytes)
escape_goes_on [] = none_goes_on
escape_goes_on (byte ∷ bytes) = rw (flat_map-cons escape_byte byte bytes) (both_go_on (escape_byte byte) (escape bytes) (escape_byte_goes_on byte) (escape_goes_on bytes))

text_ends : (bytes : List ℕ) → text_rest false (34 ∷ bytes) ≡ 34 ∷ []
unfolding text_rest
text_ends bytes = refl

quoted_plain : (text bytes : List ℕ) → IsPlain bytes → IsPlain (quoted text ++ bytes)
unfolding piece_rest
quoted_plain text bytes p =
    let cut : text_rest false ((escape text ++ 34 ∷ []) ++ bytes) ≡ escape text ++ 34 ∷ [] =
    ap (text_rest false) (append_assoc (escape text) (34 ∷ []) bytes) ∙ ((escape_goes_on text).over (34 ∷ bytes) ∙ ap (λ bs. escape text ++ bs) (text_ends bytes)) in
    plain_piece 34 (escape text ++ 34 ∷ []) bytes cut refl p

-- ---- numbers

-- the bytes are digits
record IsDigit (byte : ℕ) : Type 0 where
  least : 48 ≤ byte
  most : byte ≤ 57

abbrev AreDigits : List ℕ → Type 0
AreDigits bytes = AllByRecursion IsDigit bytes

digit_begins : (byte : ℕ) → IsDigit byte → begins_number byte ≡ true
digit_begins byte d = let least = d.least in let most = d.most in rw (le-leb 48 byte least, le-leb byte 57 most) refl

digit_no_mark : (byte : ℕ) → IsDigit byte → is_float_mark byte ≡ false
digit_no_mark byte d =
    let most = d.most in
    let least = d.least in
    rw (ne_eqb byte 46 (λ e. omega arith), ne_eqb byte 101 (λ e. omega arith), ne_eqb byte 69 (λ e. omega arith)) refl

digits_no_mark : (bytes : List ℕ) → AreDigits bytes → list_any is_float_mark bytes ≡ false
digits_no_mark [] all = refl
digits_no_mark (byte ∷ bytes) all = rw (digit_no_mark byte all.0) (digits_no_mark bytes all.1)

digits_taken : (digits bytes : List ℕ) → AreDigits digits → stops bytes ≡ true → take_while goes_on_number (digits ++ bytes) ≡ digits
digits_taken [] bytes all e = stopped bytes e
digits_taken (digit ∷ digits) bytes all e = take_while-cons goes_on_number digit (digits ++ bytes) ∙ rw (digit_begins digit all.0) (ap (λ ds. digit ∷ ds) (digits_taken digits bytes all.1 e))

number_plain : (byte : ℕ) (digits bytes : List ℕ) → eqb byte 34 ≡ false → begins_number byte ≡ true → is_float_mark byte ≡ false → AreDigits digits → stops bytes ≡ true → IsPlain bytes → IsPlain (byte ∷ (digits ++ bytes))
unfolding piece_rest
number_plain byte digits bytes other begins unmarked all e p =
    plain_piece byte digits bytes (rw (other, begins) (digits_taken digits bytes all e)) (rw (begins, unmarked) (digits_no_mark digits all)) p

digits_plain : (digits bytes : List ℕ) → AreDigits digits → stops bytes ≡ true → IsPlain bytes → IsPlain (digits ++ bytes)
digits_plain [] bytes all e p = p
digits_plain (digit ∷ digits) bytes all e p =
    let least = all.0.least in
    number_plain digit digits bytes (ne_eqb digit 34 (λ same. omega arith)) (digit_begins digit all.0) (digit_no_mark digit all.0) all.1 e p

glyph_digit : (digit : ℕ) → digit < 10 → IsDigit (digit_glyph false digit)
glyph_digit digit lt = rw (lt-ltb digit 10 lt) (record { least = omega arith; most = omega arith })

onto_digits : (more n : ℕ) (behind : List ℕ) → AreDigits behind → AreDigits (digits_onto more 10 false n behind)
onto_digits zero n behind all = all
onto_digits (suc more) n behind all =
    elim (eqb (n / 10) 0) as (λ b. AreDigits (cond b (digit_glyph false (n % 10) ∷ behind) (digits_onto more 10 false (n / 10) (digit_glyph false (n % 10) ∷ behind)))) [
      | true ↦ (glyph_digit (n % 10) (omega arith), all)
      | false ↦ onto_digits more (n / 10) (digit_glyph false (n % 10) ∷ behind) (glyph_digit (n % 10) (omega arith), all)
    ]

decimal_digits : (n : ℕ) → AreDigits (decimal n)
unfolding digits
decimal_digits n = onto_digits 64 n [] tt

number_text_plain : (n : Num) (bytes : List ℕ) → is_float n ≡ false → stops bytes ≡ true → IsPlain bytes → IsPlain (number_text n ++ bytes)
number_text_plain (unsigned n) bytes whole e p = digits_plain (decimal n) bytes (decimal_digits n) e p
number_text_plain (negative (pos n)) bytes whole e p = digits_plain (decimal n) bytes (decimal_digits n) e p
number_text_plain (negative (negsuc n)) bytes whole e p = number_plain 45 (decimal (suc n)) bytes refl refl refl (decimal_digits (suc n)) e p
number_text_plain (float x) bytes whole e p = absurd cc

-- ---- values

boolean_plain : (b : Bool) (bytes : List ℕ) → IsPlain bytes → IsPlain (compact_text (boolean b) ++ bytes)
boolean_plain true bytes p = plain_byte 116 _ refl refl (plain_byte 114 _ refl refl (plain_byte 117 _ refl refl (plain_byte 101 bytes refl refl p)))
boolean_plain false bytes p = plain_byte 102 _ refl refl (plain_byte 97 _ refl refl (plain_byte 108 _ refl refl (plain_byte 115 _ refl refl (plain_byte 101 bytes refl refl p))))

comma_plain : (later : Bool) (bytes : List ℕ) → IsPlain bytes → IsPlain (comma_if later ++ bytes)
comma_plain true bytes p = plain_byte 44 bytes refl refl p
comma_plain false bytes p = p

items_stop : (ds : Items) (bytes : List ℕ) → stops (items_text true ds ++ bytes) ≡ true
unfolding stops
items_stop no_items bytes = refl
items_stop (item d ds) bytes = refl

members_stop : (ms : Members) (bytes : List ℕ) → stops (members_text true ms ++ bytes) ≡ true
unfolding stops
members_stop no_members bytes = refl
members_stop (member k d ms) bytes = refl

mutual
  value_plain : (d : Data) (bytes : List ℕ) → has_float d ≡ false → stops bytes ≡ true → IsPlain bytes → IsPlain (compact_text d ++ bytes)
  value_plain null bytes whole e p = plain_byte 110 _ refl refl (plain_byte 117 _ refl refl (plain_byte 108 _ refl refl (plain_byte 108 bytes refl refl p)))
  value_plain (boolean b) bytes whole e p = boolean_plain b bytes p
  value_plain (number n) bytes whole e p = number_text_plain n bytes whole e p
  value_plain (string text) bytes whole e p = quoted_plain text bytes p
  value_plain (array ds) bytes whole e p = plain_byte 91 _ refl refl (items_plain false ds bytes whole p)
  value_plain (object ms) bytes whole e p = plain_byte 123 _ refl refl (members_plain false ms bytes whole p)

  items_plain : (later : Bool) (ds : Items) (bytes : List ℕ) → items_have_float ds ≡ false → IsPlain bytes → IsPlain (items_text later ds ++ bytes)
  items_plain later no_items bytes whole p = plain_byte 93 bytes refl refl p
  items_plain later (item d ds) bytes whole p =
      let parts = or_parts (has_float d) (items_have_float ds) whole in
      rw (append_assoc (comma_if later) (compact_text d ++ items_text true ds) bytes, append_assoc (compact_text d) (items_text true ds) bytes)
      (comma_plain later _ (value_plain d (items_text true ds ++ bytes) parts.0 (items_stop ds bytes) (items_plain true ds bytes parts.1 p)))

  members_plain : (later : Bool) (ms : Members) (bytes : List ℕ) → members_have_float ms ≡ false → IsPlain bytes → IsPlain (members_text later ms ++ bytes)
  members_plain later no_members bytes whole p = plain_byte 125 bytes refl refl p
  members_plain later (member k d ms) bytes whole p =
      let parts = or_parts (has_float d) (members_have_float ms) whole in
      rw (append_assoc (comma_if later) (quoted k ++ 58 ∷ (compact_text d ++ members_text true ms)) bytes, append_assoc (quoted k) (58 ∷ (compact_text d ++ members_text true ms)) bytes, append_assoc (compact_text d) (members_text true ms) bytes)
      (comma_plain later _ (quoted_plain k _ (plain_byte 58 _ refl refl (value_plain d (members_text true ms ++ bytes) parts.0 (members_stop ms bytes) (members_plain true ms bytes parts.1 p)))))

pub compact_text-plain : (d : Data) → has_float d ≡ false → has_float_token (compact_text d) ≡ false
unfolding stops
compact_text-plain d whole = rw append-nil at (value_plain d [] whole refl none_plain).plain
