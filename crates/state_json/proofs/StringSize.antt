-- What a string says is no longer than what spells it.
use Rattle.std.proofs.Common.{◌≡◌, ℕ, ◌+◌, ◌≤◌, Bool, true, false, cond, ◌&&◌, ◌==◌, eqb, ltb, List, [], ◌∷◌, length, Option, Some, None, option_and_then, refl, ap, subst, arith}
use Rattle.std.proofs.lemmas.Bool.{false≢true, eqb-true, ne_eqb, and_parts}
use Rattle.std.proofs.lemmas.List.{length-append}
use Rattle.std.specs.Prelude.{⊤}
use Rattle.std.specs.Char.{is_digit, encode_utf8}
use Rattle.json.specs.Text.{code_unit, short_escape, is_high_surrogate, is_low_surrogate, surrogate_pair, Within, plain, after_backslash, after_u, after_high, prepend, content}
use Rattle.json.specs.Word.{is_operator, is_space}
use Rattle.json.specs.Lex.{operator, space, other, Mode, in_string, in_escape}
use Rattle.json.specs.Align.{span_byte, span}

abbrev pub AtMost : ℕ → Option (List ℕ) → Type 0
AtMost n None = ⊤
AtMost n (Some s) = length s ≤ n

-- ---- the bytes that the lexer passes

abbrev mode_of : Within → Mode
mode_of plain = in_string
mode_of after_backslash = in_escape
mode_of after_u = in_string
mode_of (after_high h) = in_string

inside : (o s : Bool) (k : Mode → ℕ) → span_byte in_string (cond o operator (cond s space other)) k ≡ 1 + k in_string
inside true s k = refl
inside false true k = refl
inside false false k = refl

inside_byte : (x : ℕ) (xs : List ℕ) → eqb x 34 ≡ false → eqb x 92 ≡ false → span in_string (x ∷ xs) ≡ 1 + span in_string xs
unfolding span
inside_byte x xs q b = rw (q, b) (inside (is_operator x) (is_space x) (λ next. span next xs))

escaping_byte : (x : ℕ) (xs : List ℕ) → eqb x 92 ≡ true → span in_string (x ∷ xs) ≡ 1 + span in_escape xs
unfolding span
escaping_byte x xs b = ap (λ (y : ℕ). span in_string (y ∷ xs)) (eqb-true x 92 b)

escaped_byte : (x : ℕ) (xs : List ℕ) → span in_escape (x ∷ xs) ≡ 1 + span in_string xs
unfolding span
escaped_byte x xs = refl

hex_byte : (x : ℕ) (xs : List ℕ) → is_digit x 16 ≡ true → span in_string (x ∷ xs) ≡ 1 + span in_string xs
hex_byte x xs hex =
    inside_byte x xs
    (ne_eqb x 34 (λ e. false≢true (subst (λ (y : ℕ). is_digit y 16 ≡ true) e hex)))
    (ne_eqb x 92 (λ e. false≢true (subst (λ (y : ℕ). is_digit y 16 ≡ true) e hex)))

is_hex : (b : Bool) (v u : ℕ) → cond b (Some v) None ≡ Some u → b ≡ true
is_hex true v u e = refl
is_hex false v u e = absurd cc

hex_bytes : (a b c d u : ℕ) (xs : List ℕ) → code_unit a b c d ≡ Some u → span in_string (a ∷ b ∷ c ∷ d ∷ xs) ≡ 4 + span in_string xs
unfolding code_unit
hex_bytes a b c d u xs e =
    let four = and_parts (is_digit a 16 && is_digit b 16 && is_digit c 16) (is_digit d 16) (is_hex _ _ u e) in
    let three = and_parts (is_digit a 16 && is_digit b 16) (is_digit c 16) four.0 in
    let two = and_parts (is_digit a 16) (is_digit b 16) three.0 in
    omega (arith, hex_byte a (b ∷ c ∷ d ∷ xs) two.0, hex_byte b (c ∷ d ∷ xs) two.1, hex_byte c (d ∷ xs) three.1, hex_byte d xs four.1)

-- ---- what they say

choice : (n : ℕ) (b : Bool) (x y : Option (List ℕ)) → (b ≡ true → AtMost n x) → (b ≡ false → AtMost n y) → AtMost n (cond b x y)
choice n true x y f g = f refl
choice n false x y f g = g refl

when_some : (n : ℕ) (f : ℕ → Option (List ℕ)) (o : Option ℕ) → ((u : ℕ) → o ≡ Some u → AtMost n (f u)) → AtMost n (option_and_then f o)
when_some n f None h = tt
when_some n f (Some u) h = h u refl

behind : (n m : ℕ) (front : List ℕ) (o : Option (List ℕ)) → AtMost m o → length front + m ≤ n → AtMost n (prepend front o)
behind n m front None h le = tt
behind n m front (Some s) h le = omega (arith, length-append front s)

weaker : (n m : ℕ) (o : Option (List ℕ)) → AtMost m o → m ≤ n → AtMost n o
weaker n m None h le = tt
weaker n m (Some s) h le = omega arith

character : (u : ℕ) → length (encode_utf8 u) ≤ 4
unfolding encode_utf8
character u = grind arith

said : (w : Within) (xs : List ℕ) → AtMost (span (mode_of w) xs) (content w xs)
unfolding content
said plain [] = tt
said plain (x ∷ xs) =
    choice _ (x == 34) _ _ (λ q. omega arith) (λ q. choice _ (x == 92) _ _
    (λ b. weaker _ _ (content after_backslash xs) (said after_backslash xs) (omega (arith, escaping_byte x xs b)))
    (λ b. choice _ (ltb x 32) _ _ (λ l. tt) (λ l. behind _ _ (x ∷ []) (content plain xs) (said plain xs) (omega (arith, inside_byte x xs q b)))))
said after_backslash [] = tt
said after_backslash (x ∷ xs) =
    choice _ (x == 117) _ _ (λ u. weaker _ _ (content after_u xs) (said after_u xs) (omega (arith, escaped_byte x xs)))
    (λ u. when_some _ _ (short_escape x) (λ c e. behind _ _ (c ∷ []) (content plain xs) (said plain xs) (omega (arith, escaped_byte x xs))))
said after_u [] = tt
said after_u (a ∷ []) = tt
said after_u (a ∷ b ∷ []) = tt
said after_u (a ∷ b ∷ c ∷ []) = tt
said after_u (a ∷ b ∷ c ∷ d ∷ xs) =
    when_some _ _ (code_unit a b c d) (λ u e. let four = hex_bytes a b c d u xs e in
    choice _ (is_high_surrogate u) _ _ (λ h. weaker _ _ (content (after_high u) xs) (said (after_high u) xs) (omega arith))
    (λ h. choice _ (is_low_surrogate u) _ _ (λ l. tt) (λ l. behind _ _ (encode_utf8 u) (content plain xs) (said plain xs) (omega (arith, character u)))))
said (after_high h) [] = tt
said (after_high h) (s ∷ []) = tt
said (after_high h) (s ∷ u ∷ []) = tt
said (after_high h) (s ∷ u ∷ a ∷ []) = tt
said (after_high h) (s ∷ u ∷ a ∷ b ∷ []) = tt
said (after_high h) (s ∷ u ∷ a ∷ b ∷ c ∷ []) = tt
said (after_high h) (s ∷ u ∷ a ∷ b ∷ c ∷ d ∷ xs) =
    choice _ ((s == 92) && (u == 117)) _ _
    (λ e. when_some _ _ (code_unit a b c d) (λ low is. choice _ (is_low_surrogate low) _ _
    (λ l. behind _ _ (encode_utf8 (surrogate_pair h low)) (content plain xs) (said plain xs)
    (omega (arith, escaping_byte s (u ∷ a ∷ b ∷ c ∷ d ∷ xs) (and_parts _ _ e).0, escaped_byte u (a ∷ b ∷ c ∷ d ∷ xs), hex_bytes a b c d low xs is, character (surrogate_pair h low))))
    (λ l. tt)))
    (λ e. tt)

pub string_said : (xs : List ℕ) → AtMost (span in_string xs) (content plain xs)
string_said xs = said plain xs
