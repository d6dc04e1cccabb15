-- A name in the words of an entry point.
use Rattle.std.proofs.Common.{ℕ, ◌≡◌, ◌≢◌, ◌+◌, ◌<◌, ◌≤◌, true, false, List, [], ◌∷◌, ◌++◌, length, get_or, take, drop, Some, None, refl, ap, sym, ◌∙◌, append_assoc}
use Rattle.std.proofs.lemmas.Bool.{ne_eqb}
use Rattle.std.proofs.lemmas.List.{append-nil, take-append-drop, drop_more, take_more, take_all}
use Rattle.std.proofs.lemmas.List.Concat.{flat_map-cons}
use Rattle.foz_words.specs.Bytes.{le32}
use Rattle.spirv_check.specs.Names.{word_bytes, name_in, NoZero, AddsName}

pub NoZero-append : (xs ys : List ℕ) → NoZero xs → NoZero ys → NoZero (xs ++ ys)
NoZero-append [] ys p q = q
NoZero-append (x ∷ xs) ys p q = (p.0, NoZero-append xs ys p.1 q)

name_none : (xs : List ℕ) → NoZero xs → name_in xs ≡ None
unfolding name_in
name_none [] none = refl
name_none (x ∷ xs) none = rw (ne_eqb x 0 none.0, name_none xs none.1) refl

name_found : (xs rest : List ℕ) → NoZero xs → name_in (xs ++ 0 ∷ rest) ≡ Some xs
unfolding name_in
name_found [] rest none = refl
name_found (x ∷ xs) rest none = rw (ne_eqb x 0 none.0, name_found xs rest none.1) refl

word_bytes-append : (xs ys : List ℕ) → word_bytes (xs ++ ys) ≡ word_bytes xs ++ word_bytes ys
unfolding word_bytes
word_bytes-append [] ys = refl
word_bytes-append (x ∷ xs) ys = flat_map-cons le32 x (xs ++ ys) ∙ (ap (λ l. le32 x ++ l) (word_bytes-append xs ys) ∙ (sym (append_assoc (le32 x) (word_bytes xs) (word_bytes ys)) ∙ ap (λ l. l ++ word_bytes ys) (sym (flat_map-cons le32 x xs))))

word_bytes-one : (x : ℕ) → word_bytes (x ∷ []) ≡ le32 x
unfolding word_bytes
word_bytes-one x = flat_map-cons le32 x [] ∙ append-nil (le32 x)

-- the words before this one have no zero byte, and these are their bytes
pub record Reads (words name : List ℕ) (place : ℕ) : Type 0 where
  pub none : NoZero (word_bytes (take place words))
  pub is : name ≡ word_bytes (take place words)

pub reads_none : (words : List ℕ) → Reads words [] 0
unfolding word_bytes
reads_none words = record { none = tt; is = refl }

bytes_more : (words : List ℕ) (place : ℕ) → place < length words → word_bytes (take (place + 1) words) ≡ word_bytes (take place words) ++ le32 (get_or words place 0)
bytes_more words place lt = ap word_bytes (take_more words place 0 lt) ∙ (word_bytes-append (take place words) (get_or words place 0 ∷ []) ∙ ap (λ l. word_bytes (take place words) ++ l) (word_bytes-one (get_or words place 0)))

pub reads_more : (words name new : List ℕ) (place : ℕ) → place < length words → Reads words name place → AddsName name (le32 (get_or words place 0)) false new → Reads words new (place + 1)
reads_more words name new place lt r a = record {
  none = rw (bytes_more words place lt) (NoZero-append (word_bytes (take place words)) (le32 (get_or words place 0)) r.none a.0);
  is = a.1 ∙ (ap (λ l. l ++ le32 (get_or words place 0)) r.is ∙ sym (bytes_more words place lt));
}

whole_bytes : (words : List ℕ) (place : ℕ) → place < length words → word_bytes words ≡ word_bytes (take place words) ++ (le32 (get_or words place 0) ++ word_bytes (drop (place + 1) words))
whole_bytes words place lt =
    ap word_bytes (sym (take-append-drop (place + 1) words)) ∙ (word_bytes-append (take (place + 1) words) (drop (place + 1) words)
    ∙ (ap (λ l. l ++ word_bytes (drop (place + 1) words)) (bytes_more words place lt) ∙ append_assoc (word_bytes (take place words)) (le32 (get_or words place 0)) (word_bytes (drop (place + 1) words))))

pub reads_end : (words name new : List ℕ) (place : ℕ) → place < length words → Reads words name place → AddsName name (le32 (get_or words place 0)) true new → name_in (word_bytes words) ≡ Some new
reads_end words name new place lt r a =
    let added = a.0 in
    let rest = a.1 in
    let front = word_bytes (take place words) in
    let behind = word_bytes (drop (place + 1) words) in
    let whole : word_bytes words ≡ (front ++ added) ++ 0 ∷ (rest ++ behind) =
    whole_bytes words place lt ∙ (ap (λ l. front ++ (l ++ behind)) a.2 ∙ (ap (λ l. front ++ l) (append_assoc added (0 ∷ rest) behind) ∙ sym (append_assoc front added (0 ∷ (rest ++ behind))))) in
    ap name_in whole ∙ (name_found (front ++ added) (rest ++ behind) (NoZero-append front added r.none a.3) ∙ ap (λ l. Some l) (ap (λ l. l ++ added) (sym r.is) ∙ sym a.4))

pub reads_all : (words name : List ℕ) (place : ℕ) → length words ≤ place → Reads words name place → name_in (word_bytes words) ≡ None
reads_all words name place past r = ap (λ l. name_in (word_bytes l)) (sym (take_all place words past)) ∙ name_none (word_bytes (take place words)) r.none

-- ---- the bytes of one word

pub record Adds (old bytes new : List ℕ) (place : ℕ) : Type 0 where
  pub none : NoZero (take place bytes)
  pub is : new ≡ old ++ take place bytes

pub adds_none : (old bytes : List ℕ) → Adds old bytes old 0
adds_none old bytes = record { none = tt; is = sym (append-nil old) }

pub adds_more : (old bytes new : List ℕ) (place : ℕ) → place < length bytes → Adds old bytes new place → get_or bytes place 0 ≢ 0 → Adds old bytes (new ++ get_or bytes place 0 ∷ []) (place + 1)
adds_more old bytes new place lt a some = record {
  none = rw (take_more bytes place 0 lt) (NoZero-append (take place bytes) (get_or bytes place 0 ∷ []) a.none (some, tt));
  is = ap (λ l. l ++ get_or bytes place 0 ∷ []) a.is ∙ (append_assoc old (take place bytes) (get_or bytes place 0 ∷ []) ∙ ap (λ l. old ++ l) (sym (take_more bytes place 0 lt)));
}

pub adds_end : (old bytes new : List ℕ) (place : ℕ) → place < length bytes → Adds old bytes new place → get_or bytes place 0 ≡ 0 → AddsName old bytes true new
adds_end old bytes new place lt a zero_byte =
    (take place bytes, drop (place + 1) bytes, sym (take-append-drop place bytes) ∙ ap (λ l. take place bytes ++ l) (drop_more bytes place 0 lt ∙ ap (λ b. b ∷ drop (place + 1) bytes) zero_byte), a.none, a.is)

pub adds_all : (old bytes new : List ℕ) (place : ℕ) → length bytes ≤ place → Adds old bytes new place → AddsName old bytes false new
adds_all old bytes new place past a =
    let whole : take place bytes ≡ bytes = take_all place bytes past in
    (rw (← whole) a.none, a.is ∙ ap (λ l. old ++ l) whole)
