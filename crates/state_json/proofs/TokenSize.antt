-- The tokens of a text are no larger than the text.
use Rattle.std.proofs.Common.{ℕ, suc, ◌+◌, ◌-◌, ◌≤◌, Bool, true, false, cond, ◌&&◌, ◌==◌, List, [], ◌∷◌, length, take, drop, Option, Some, None, arith}
use Rattle.json.specs.Token.{Token, begin_object, end_object, begin_array, end_array, key, string, number, boolean, null, bad}
use Rattle.std.specs.Prelude.{nat_eq}
use Rattle.std.specs.List.{starts_with}
use Rattle.json.specs.Ascii.{true_text, false_text, null_text}
use Rattle.json.specs.Word.{head, after_number, ends_word, number_before, literal, word}
use Rattle.json.specs.Text.{content, plain}
use Rattle.json.specs.Lex.{Lexeme, token, comma, colon, Class, quote, backslash, operator, space, other, class, operator_lexeme, string_token, Mode, between, in_word, in_string, in_escape, lex_byte, lex, Place, fresh, after_value, after_comma, after_key, begins_colon, may_begin, may_close, if_allowed, place_token, punctuate, tokens}
use Rattle.json.specs.Align.{span_byte, span}
use Rattle.state_json.proofs.StringSize.{AtMost, string_said}

-- a value, with the bytes of a text; the names and what is closed are free
abbrev pub token_size : Token → ℕ
token_size begin_object = 1
token_size end_object = 0
token_size begin_array = 1
token_size end_array = 0
token_size (key s) = 0
token_size (string s) = 1 + length s
token_size (number s) = 1
token_size (boolean b) = 1
token_size null = 1
token_size bad = 0

abbrev pub tokens_size : List Token → ℕ
tokens_size [] = 0
tokens_size (t ∷ ts) = token_size t + tokens_size ts

abbrev lexeme_size : Lexeme → ℕ
lexeme_size (token t) = token_size t
lexeme_size comma = 0
lexeme_size colon = 0

abbrev lexemes_size : List Lexeme → ℕ
lexemes_size [] = 0
lexemes_size (l ∷ ls) = lexeme_size l + lexemes_size ls

-- ---- the lexer

string_fits : (n : ℕ) (o : Option (List ℕ)) → AtMost n o → token_size (string_token o) ≤ 1 + n
string_fits n None h = omega arith
string_fits n (Some s) h = omega arith

one_lexeme : (a b c d e : Bool) → lexeme_size (cond a (token begin_object) (cond b (token end_object) (cond c (token begin_array) (cond d (token end_array) (cond e comma colon))))) ≤ 1
one_lexeme true b c d e = omega arith
one_lexeme false true c d e = omega arith
one_lexeme false false true d e = omega arith
one_lexeme false false false true e = omega arith
one_lexeme false false false false true = omega arith
one_lexeme false false false false false = omega arith

operator_fits : (x : ℕ) → lexeme_size (operator_lexeme x) ≤ 1
operator_fits x = one_lexeme (x == 123) (x == 125) (x == 91) (x == 93) (x == 44)

either_fits : (b : Bool) (t u : Token) → token_size t ≤ 1 → token_size u ≤ 1 → token_size (cond b t u) ≤ 1
either_fits true t u p q = p
either_fits false t u p q = q

number_fits : (t : List ℕ) (o : Option (List ℕ)) → token_size (number_before t o) ≤ 1
number_fits t None = omega arith
number_fits t (Some rest) = either_fits (ends_word rest) (number (take (length t - length rest) t)) bad (omega arith) (omega arith)

literal_fits : (name : List ℕ) (t : Token) (text : List ℕ) → token_size t ≤ 1 → token_size (literal name t text) ≤ 1
literal_fits name t text h = either_fits (starts_with nat_eq text name && ends_word (drop (length name) text)) t bad h (omega arith)

word_fits : (t : List ℕ) → token_size (word t) ≤ 1
unfolding word
word_fits t =
    either_fits (head t == 116) (literal true_text (boolean true) t) _ (literal_fits true_text (boolean true) t (omega arith))
    (either_fits (head t == 102) (literal false_text (boolean false) t) _ (literal_fits false_text (boolean false) t (omega arith))
    (either_fits (head t == 110) (literal null_text null t) _ (literal_fits null_text null t (omega arith)) (number_fits t (after_number t))))

-- the lexemes, and what is left of a text that has begun
abbrev Fits : Mode → List ℕ → Type 0
Fits m xs = lexemes_size (lex m xs) + span m xs ≤ length xs

byte_fits : (m : Mode) (c : Class) (x : ℕ) (xs : List ℕ) → ((next : Mode) → Fits next xs)
    → lexemes_size (lex_byte m c x xs (λ next. lex next xs)) + span_byte m c (λ next. span next xs) ≤ suc (length xs)
byte_fits between quote x xs more = let rest = more in_string in let text = string_fits (span in_string xs) (content plain xs) (string_said xs) in omega arith
byte_fits between backslash x xs more = let rest = more in_word in omega arith
byte_fits between operator x xs more = let rest = more between in let one = operator_fits x in omega arith
byte_fits between space x xs more = let rest = more between in omega arith
byte_fits between other x xs more = let rest = more in_word in let one = word_fits (x ∷ xs) in omega arith
byte_fits in_word quote x xs more = let rest = more in_word in omega arith
byte_fits in_word backslash x xs more = let rest = more in_word in omega arith
byte_fits in_word operator x xs more = let rest = more between in let one = operator_fits x in omega arith
byte_fits in_word space x xs more = let rest = more between in omega arith
byte_fits in_word other x xs more = let rest = more in_word in omega arith
byte_fits in_string quote x xs more = let rest = more between in omega arith
byte_fits in_string backslash x xs more = let rest = more in_escape in omega arith
byte_fits in_string operator x xs more = let rest = more in_string in omega arith
byte_fits in_string space x xs more = let rest = more in_string in omega arith
byte_fits in_string other x xs more = let rest = more in_string in omega arith
byte_fits in_escape c x xs more = let rest = more in_string in omega arith

lexed_fits : (m : Mode) (xs : List ℕ) → Fits m xs
unfolding lex span
lexed_fits m [] = omega arith
lexed_fits m (x ∷ xs) = byte_fits m (class x) x xs (λ next. lexed_fits next xs)

-- ---- commas and colons

allowed_fits : (b : Bool) (t : Token) (k : Place → List Token) (next : Place) (n : ℕ) → tokens_size (k next) ≤ n → tokens_size (if_allowed b t k next) ≤ token_size t + n
allowed_fits true t k next n h = omega arith
allowed_fits false t k next n h = omega arith

place_fits : (p : Place) (t : Token) (before_colon : Bool) (k : Place → List Token) (n : ℕ) → ((next : Place) → tokens_size (k next) ≤ n) → tokens_size (place_token p t before_colon k) ≤ token_size t + n
place_fits p begin_object b k n h = allowed_fits (may_begin p) begin_object k fresh n (h fresh)
place_fits p end_object b k n h = allowed_fits (may_close p) end_object k after_value n (h after_value)
place_fits p begin_array b k n h = allowed_fits (may_begin p) begin_array k fresh n (h fresh)
place_fits p end_array b k n h = allowed_fits (may_close p) end_array k after_value n (h after_value)
place_fits p (key s) b k n h = omega arith
place_fits p (string s) true k n h = let fits = allowed_fits (may_begin p) (key s) k after_key n (h after_key) in omega arith
place_fits p (string s) false k n h = allowed_fits (may_begin p) (string s) k after_value n (h after_value)
place_fits p (number s) b k n h = allowed_fits (may_begin p) (number s) k after_value n (h after_value)
place_fits p (boolean c) b k n h = allowed_fits (may_begin p) (boolean c) k after_value n (h after_value)
place_fits p null b k n h = allowed_fits (may_begin p) null k after_value n (h after_value)
place_fits p bad b k n h = omega arith

placed_fits : (p : Place) (ls : List Lexeme) → tokens_size (punctuate p ls) ≤ lexemes_size ls
unfolding punctuate
placed_fits fresh [] = omega arith
placed_fits after_value [] = omega arith
placed_fits after_comma [] = omega arith
placed_fits after_key [] = omega arith
placed_fits fresh (token t ∷ ls) = place_fits fresh t (begins_colon ls) (λ next. punctuate next ls) (lexemes_size ls) (λ next. placed_fits next ls)
placed_fits after_value (token t ∷ ls) = place_fits after_value t (begins_colon ls) (λ next. punctuate next ls) (lexemes_size ls) (λ next. placed_fits next ls)
placed_fits after_comma (token t ∷ ls) = place_fits after_comma t (begins_colon ls) (λ next. punctuate next ls) (lexemes_size ls) (λ next. placed_fits next ls)
placed_fits after_key (token t ∷ ls) = place_fits after_key t (begins_colon ls) (λ next. punctuate next ls) (lexemes_size ls) (λ next. placed_fits next ls)
placed_fits fresh (comma ∷ ls) = omega arith
placed_fits after_value (comma ∷ ls) = let rest = placed_fits after_comma ls in omega arith
placed_fits after_comma (comma ∷ ls) = omega arith
placed_fits after_key (comma ∷ ls) = omega arith
placed_fits fresh (colon ∷ ls) = omega arith
placed_fits after_value (colon ∷ ls) = omega arith
placed_fits after_comma (colon ∷ ls) = omega arith
placed_fits after_key (colon ∷ ls) = let rest = placed_fits fresh ls in omega arith

pub tokens_fit : (text : List ℕ) → tokens_size (tokens text) ≤ length text
tokens_fit text =
    let lexed = lexed_fits between text in
    let placed = placed_fits fresh (lex between text) in
    omega arith
