-- What stands at the beginning of the bytes that a worker reads.
use Rattle.std.proofs.Common.{ℕ, zero, suc, ◌≡◌, ◌+◌, ◌-◌, ◌^◌, ◌<◌, ◌≤◌, ◌⊎◌, inl, inr, cond, ltb, List, [], ◌∷◌, ◌++◌, length, get_or, take, drop, refl, ap, sym, subst, ◌∙◌, append_assoc, arith}
use Rattle.std.specs.Int.{w32, from_le_bytes}
use Rattle.std.proofs.lemmas.Bool.{cases_lt}
use Rattle.std.proofs.lemmas.Nat.{le_bytes_4}
use Rattle.std.proofs.lemmas.List.{append-nil, length-append, take-append-drop, length-take-le, take_at, nil_from_length}
use Rattle.foz_words.specs.Bytes.{le32}
use Rattle.foz_words.proofs.Words.{length-le32, le32-append-injective}
use Rattle.worker_msg.specs.Frames.{IsBody, hello, load, work, reply, quit, framed, IsWorkLength, IsWorkKind, limit}
use Rattle.worker_msg.specs.Fronts.{Begins, IsPartial, IsBad, IsWhole}
use Rattle.worker_msg.specs.declared.side.Side.TheVariants.{Worker}
use Rattle.worker_msg.proofs.Parts.{length-framed, body_short, partial_of, whole_of, zeros, length-zeros}

body_of_work : (len kind : ℕ) (fields : List ℕ) → IsWorkLength len → IsWorkKind len kind → length fields + 1 ≡ len → IsBody Worker (kind ∷ fields)
body_of_work len kind fields long is size = elim is [ inl q ↦ quits q | inr w ↦ works w.0 w.1 ]
  where
    quits : (kind ≡ 5) × (len ≡ 1) → IsBody Worker (kind ∷ fields)
    quits q =
        let none : fields ≡ [] = nil_from_length fields (let one = q.1 in omega arith) in
        quit refl (ap (λ k. k ∷ fields) q.0 ∙ ap (λ l. 5 ∷ l) none)

    range : (len ≡ 1 → ⊥) → (13 ≤ len) × (len ≤ 13 + limit)
    range some = elim long [ inl one ↦ absurd (some one) | inr r ↦ r ]

    works : (kind ≡ 2) ⊎ (kind ≡ 3) → (len ≡ 1 → ⊥) → IsBody Worker (kind ∷ fields)
    works k some =
        let r = range some in
        let least : 12 ≤ length fields = let l = r.0 in omega arith in
        let most : length fields ≤ 12 + limit = let m = r.1 in omega arith in
        elim k [
          | inl two ↦ load refl fields (ap (λ n. n ∷ fields) two) least most
          | inr three ↦ work refl fields (ap (λ n. n ∷ fields) three) least most
        ]

-- what a body says of its length and its kind
length_of_body : (body : List ℕ) → IsBody Worker body → IsWorkLength (length body)
length_of_body body (hello s e) = absurd cc
length_of_body body (load s fields e least most) = let long = ap length e in inr (omega arith, omega arith)
length_of_body body (work s fields e least most) = let long = ap length e in inr (omega arith, omega arith)
length_of_body body (reply s fields e size) = absurd cc
length_of_body body (quit s e) = inl (ap length e)

kind_of_body : (kind : ℕ) (tail : List ℕ) → IsBody Worker (kind ∷ tail) → IsWorkKind (length (kind ∷ tail)) kind
kind_of_body kind tail (hello s e) = absurd cc
kind_of_body kind tail (load s fields e least most) = let long = ap length e in inr (inl cc, λ one. omega arith)
kind_of_body kind tail (work s fields e least most) = let long = ap length e in inr (inr cc, λ one. omega arith)
kind_of_body kind tail (reply s fields e size) = absurd cc
kind_of_body kind tail (quit s e) = inl (cc, ap length e)

-- a frame that begins with this length
begins_length : (n : ℕ) (x : List ℕ) (b : Begins Worker (le32 n ++ x)) → n < 2 ^ 32 → (length b.body ≡ n) × (b.body ≡ x ++ b.rest)
unfolding framed
begins_length n x b short = le32-append-injective (length b.body) n b.body (x ++ b.rest) (body_short Worker b.body b.is_body) short (b.parts ∙ append_assoc (le32 n) x b.rest)

module _ (n : ℕ) (long : IsWorkLength n) where
  padded : (kind : ℕ) (fields front rest : List ℕ) → IsWorkKind n kind → length fields + 1 ≡ n → le32 n ++ kind ∷ fields ≡ front ++ rest → length front < 4 + n → IsPartial Worker front
  unfolding framed
  padded kind fields front rest is size e shorter =
      let whole : length (kind ∷ fields) ≡ n = omega arith in
      partial_of Worker (kind ∷ fields) front rest (body_of_work n kind fields long is size)
      (ap (λ l. le32 l ++ kind ∷ fields) whole ∙ e) (let all = length-framed (kind ∷ fields) in omega arith)

  pub no_kind : (bytes : List ℕ) → bytes ≡ le32 n → IsPartial Worker bytes
  no_kind bytes e =
      let size : length bytes ≡ 4 = ap length e ∙ length-le32 n in
      elim long [
        | inl one ↦ padded 5 [] bytes (5 ∷ []) (inl (refl, one)) (omega arith) (ap (λ l. l ++ 5 ∷ []) (sym e)) (omega arith)
        | inr r ↦
            let least = r.0 in
            padded 2 (zeros (n - 1)) bytes (2 ∷ zeros (n - 1)) (inr (inl refl, λ one. omega arith)) (let z = length-zeros (n - 1) in omega arith) (ap (λ l. l ++ 2 ∷ zeros (n - 1)) (sym e)) (omega arith)
      ]

  pub partial : (bytes fields : List ℕ) (kind : ℕ) → bytes ≡ le32 n ++ kind ∷ fields → IsWorkKind n kind → length fields + 1 < n → IsPartial Worker bytes
  partial bytes fields kind e is less =
      let lacking = n - 1 - length fields in
      let size : length bytes ≡ 4 + length (kind ∷ fields) = ap length e ∙ (length-append (le32 n) (kind ∷ fields) ∙ ap (λ k. k + length (kind ∷ fields)) (length-le32 n)) in
      let all : length (fields ++ zeros lacking) + 1 ≡ n = (let l = length-append fields (zeros lacking) in let z = length-zeros lacking in omega arith) in
      let parts : le32 n ++ kind ∷ (fields ++ zeros lacking) ≡ bytes ++ zeros lacking = sym (append_assoc (le32 n) (kind ∷ fields) (zeros lacking)) ∙ ap (λ l. l ++ zeros lacking) (sym e) in
      padded kind (fields ++ zeros lacking) bytes (zeros lacking) is all parts (omega arith)

  pub bad_kind : (bytes fields : List ℕ) (kind : ℕ) → n < 2 ^ 32 → bytes ≡ le32 n ++ kind ∷ fields → (IsWorkKind n kind → ⊥) → IsBad Worker bytes 4
  bad_kind bytes fields kind short e not = record {
    good = le32 n;
    byte = kind;
    more = fields;
    parts = e;
    partial = no_kind (le32 n) refl;
    none = λ b. (let p = begins_length n (kind ∷ []) b short in
        not (subst (λ l. IsWorkKind l kind) (ap length (sym p.1) ∙ p.0) (kind_of_body kind b.rest (subst (λ (body : List ℕ). IsBody Worker body) p.1 b.is_body))));
    at = sym (ap (λ l. cond (ltb l 4) 0 l) (length-le32 n));
  }

  whole_parts : (bytes front back : List ℕ) (kind : ℕ) → bytes ≡ le32 n ++ kind ∷ (front ++ back) → IsWorkKind n kind → length front + 1 ≡ n → IsWhole Worker bytes (4 + n)
  unfolding framed
  whole_parts bytes front back kind e is size =
      let long_body : length (kind ∷ front) ≡ n = omega arith in
      whole_of Worker (kind ∷ front) bytes back (4 + n) (body_of_work n kind front long is size)
      (e ∙ (sym (append_assoc (le32 n) (kind ∷ front) back) ∙ ap (λ l. (le32 l ++ kind ∷ front) ++ back) (sym long_body))) (length-framed (kind ∷ front) ∙ ap (λ l. 4 + l) long_body)

  pub whole : (bytes fields : List ℕ) (kind : ℕ) → bytes ≡ le32 n ++ kind ∷ fields → IsWorkKind n kind → n ≤ length fields + 1 → IsWhole Worker bytes (4 + n)
  whole bytes fields kind e is enough =
      let some : 1 ≤ n = elim long [ inl one ↦ omega arith | inr r ↦ let least = r.0 in omega arith ] in
      whole_parts bytes (take (n - 1) fields) (drop (n - 1) fields) kind (e ∙ ap (λ l. le32 n ++ kind ∷ l) (sym (take-append-drop (n - 1) fields))) is (let t = length-take-le (n - 1) fields (omega arith) in omega arith)

-- ---- fewer bytes than a length has

four_fit : (a b c d : ℕ) → a < 256 → b < 256 → c < 256 → d < 256 → (i : ℕ) → get_or (a ∷ b ∷ c ∷ d ∷ []) i 0 < 256
four_fit a b c d p q r s zero = p
four_fit a b c d p q r s (suc zero) = q
four_fit a b c d p q r s (suc (suc zero)) = r
four_fit a b c d p q r s (suc (suc (suc zero))) = s
four_fit a b c d p q r s (suc (suc (suc (suc i)))) = omega arith

begun : (a b c d n : ℕ) (bytes rest : List ℕ) → a < 256 → b < 256 → c < 256 → d < 256 → n ≡ from_le_bytes w32 (a ∷ b ∷ c ∷ d ∷ []) → 13 ≤ n → n ≤ 13 + limit → a ∷ b ∷ c ∷ d ∷ [] ≡ bytes ++ rest → length bytes < 4 → IsPartial Worker bytes
unfolding le32
begun a b c d n bytes rest p q r s is least most e shorter =
    let cells : le32 n ≡ a ∷ b ∷ c ∷ d ∷ [] = le_bytes_4 (a ∷ b ∷ c ∷ d ∷ []) n refl (four_fit a b c d p q r s) is in
    padded n (inr (least, most)) 2 (zeros (n - 1)) bytes (rest ++ 2 ∷ zeros (n - 1)) (inr (inl refl, λ one. omega arith)) (let z = length-zeros (n - 1) in omega arith)
    (ap (λ l. l ++ 2 ∷ zeros (n - 1)) (cells ∙ e) ∙ append_assoc bytes rest (2 ∷ zeros (n - 1))) (omega arith)

pub no_length : (bytes : List ℕ) → length bytes < 4 → ((i : ℕ) → get_or bytes i 0 < 256) → IsPartial Worker bytes
no_length [] shorter fits = begun 0 0 1 0 65536 [] (0 ∷ 0 ∷ 1 ∷ 0 ∷ []) (omega arith) (omega arith) (omega arith) (omega arith) refl (omega arith) (omega arith) refl (omega arith)
no_length (a ∷ []) shorter fits = begun a 0 1 0 (from_le_bytes w32 (a ∷ 0 ∷ 1 ∷ 0 ∷ [])) (a ∷ []) (0 ∷ 1 ∷ 0 ∷ []) (fits 0) (omega arith) (omega arith) (omega arith) refl (omega arith) (omega (arith, fits 0)) refl (omega arith)
no_length (a ∷ b ∷ []) shorter fits = begun a b 1 0 (from_le_bytes w32 (a ∷ b ∷ 1 ∷ 0 ∷ [])) (a ∷ b ∷ []) (1 ∷ 0 ∷ []) (fits 0) (fits 1) (omega arith) (omega arith) refl (omega arith) (omega (arith, fits 0, fits 1)) refl (omega arith)
no_length (a ∷ b ∷ c ∷ []) shorter fits =
    elim (cases_lt 12 (from_le_bytes w32 (a ∷ b ∷ c ∷ 0 ∷ []))) [
      | inl large ↦ begun a b c 0 (from_le_bytes w32 (a ∷ b ∷ c ∷ 0 ∷ [])) (a ∷ b ∷ c ∷ []) (0 ∷ []) (fits 0) (fits 1) (fits 2) (omega arith) refl large (omega (arith, fits 0, fits 1, fits 2)) refl (omega arith)
      | inr small ↦ begun a b c 1 (from_le_bytes w32 (a ∷ b ∷ c ∷ 1 ∷ [])) (a ∷ b ∷ c ∷ []) (1 ∷ []) (fits 0) (fits 1) (fits 2) (omega arith) refl (omega arith) (omega (arith, fits 0, fits 1, fits 2)) refl (omega arith)
    ]
no_length (a ∷ b ∷ c ∷ d ∷ bytes) shorter fits = absurd (omega arith)

pub bad_length : (n : ℕ) (bytes rest : List ℕ) → n < 2 ^ 32 → ((i : ℕ) → get_or bytes i 0 < 256) → bytes ≡ le32 n ++ rest → (IsWorkLength n → ⊥) → IsBad Worker bytes 0
bad_length n [] rest short fits e not = absurd (let long = ap length e ∙ length-append (le32 n) rest in let four = length-le32 n in omega arith)
bad_length n (a ∷ []) rest short fits e not = absurd (let long = ap length e ∙ length-append (le32 n) rest in let four = length-le32 n in omega arith)
bad_length n (a ∷ b ∷ []) rest short fits e not = absurd (let long = ap length e ∙ length-append (le32 n) rest in let four = length-le32 n in omega arith)
bad_length n (a ∷ b ∷ c ∷ []) rest short fits e not = absurd (let long = ap length e ∙ length-append (le32 n) rest in let four = length-le32 n in omega arith)
bad_length n (a ∷ b ∷ c ∷ d ∷ bytes) rest short fits e not =
    let cells : a ∷ b ∷ c ∷ d ∷ [] ≡ le32 n ++ [] = ap (take 4) e ∙ (take_at (le32 n) rest 4 (length-le32 n) ∙ sym (append-nil (le32 n))) in record {
      good = a ∷ b ∷ c ∷ [];
      byte = d;
      more = bytes;
      parts = refl;
      partial = no_length (a ∷ b ∷ c ∷ []) (omega arith) three_fit;
      none = λ b. (let begins = subst (λ (l : List ℕ). Begins Worker l) cells b in
          not (subst IsWorkLength (begins_length n [] begins short).0 (length_of_body begins.body begins.is_body)));
      at = refl;
    }
  where
    three_fit : (i : ℕ) → get_or (a ∷ b ∷ c ∷ []) i 0 < 256
    three_fit zero = fits 0
    three_fit (suc zero) = fits 1
    three_fit (suc (suc zero)) = fits 2
    three_fit (suc (suc (suc i))) = omega arith
