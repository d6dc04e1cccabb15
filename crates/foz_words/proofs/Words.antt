-- The bytes of a number.
use Rattle.std.proofs.Common.{◌≡◌, ℕ, ◌^◌, ◌<◌, ◌≤◌, List, ◌++◌, length, get_or, take, drop, refl, sym, ap, ◌∙◌, arith, inl, inr}
use Rattle.std.specs.Int.{w32, w64, to_le_bytes, from_le_bytes}
use Rattle.std.proofs.lemmas.Nat.{from_le_bytes-to_le_bytes_4, from_le_bytes-to_le_bytes_8, le_bytes_4, le_bytes_8}
use Rattle.std.proofs.lemmas.List.{take-append-drop, length-take, get_or-take, take_at, drop_at, get_or_past}
use Rattle.std.proofs.lemmas.Bool.{cases_lt}
use Rattle.foz_words.specs.Bytes.{le32, le64}

pub length-le32 : (n : ℕ) → length (le32 n) ≡ 4
unfolding le32
length-le32 n = refl

pub length-le64 : (n : ℕ) → length (le64 n) ≡ 8
unfolding le64
length-le64 n = refl

take_fits : (count : ℕ) (bytes : List ℕ) → ((i : ℕ) → get_or bytes i 0 < 256) → (i : ℕ) → get_or (take count bytes) i 0 < 256
take_fits count bytes fits i = elim (cases_lt i count) [
  | inl lt ↦ rw (get_or-take count bytes i 0 lt) (fits i)
  | inr le ↦ rw (get_or_past (take count bytes) i 0 (omega (arith, length-take count bytes))) (omega arith)
]

-- the bytes at the beginning spell the number that is read there
pub le32_of_front : (bytes : List ℕ) (n : ℕ) → 4 ≤ length bytes → ((i : ℕ) → get_or bytes i 0 < 256) → n ≡ from_le_bytes w32 bytes → bytes ≡ le32 n ++ drop 4 bytes
unfolding le32
le32_of_front bytes n long fits is =
    let spelled : to_le_bytes w32 n ≡ take 4 bytes = le_bytes_4 (take 4 bytes) n (omega (arith, length-take 4 bytes)) (take_fits 4 bytes fits)
    (rw (get_or-take 4 bytes 0 0 (omega arith), get_or-take 4 bytes 1 0 (omega arith), get_or-take 4 bytes 2 0 (omega arith), get_or-take 4 bytes 3 0 (omega arith)) is) in
    sym (ap (λ (front : List ℕ). front ++ drop 4 bytes) spelled ∙ take-append-drop 4 bytes)

pub le64_of_front : (bytes : List ℕ) (n : ℕ) → 8 ≤ length bytes → ((i : ℕ) → get_or bytes i 0 < 256) → n ≡ from_le_bytes w64 bytes → bytes ≡ le64 n ++ drop 8 bytes
unfolding le64
le64_of_front bytes n long fits is =
    let spelled : to_le_bytes w64 n ≡ take 8 bytes = le_bytes_8 (take 8 bytes) n (omega (arith, length-take 8 bytes)) (take_fits 8 bytes fits)
    (rw (
      get_or-take 8 bytes 0 0 (omega arith),
      get_or-take 8 bytes 1 0 (omega arith),
      get_or-take 8 bytes 2 0 (omega arith),
      get_or-take 8 bytes 3 0 (omega arith),
      get_or-take 8 bytes 4 0 (omega arith),
      get_or-take 8 bytes 5 0 (omega arith),
      get_or-take 8 bytes 6 0 (omega arith),
      get_or-take 8 bytes 7 0 (omega arith),
    ) is) in
    sym (ap (λ (front : List ℕ). front ++ drop 8 bytes) spelled ∙ take-append-drop 8 bytes)

le32-injective : (m n : ℕ) → m < 2 ^ 32 → n < 2 ^ 32 → le32 m ≡ le32 n → m ≡ n
unfolding le32
le32-injective m n p q e = sym (from_le_bytes-to_le_bytes_4 m p) ∙ ap (from_le_bytes w32) e ∙ from_le_bytes-to_le_bytes_4 n q

le64-injective : (m n : ℕ) → m < 2 ^ 64 → n < 2 ^ 64 → le64 m ≡ le64 n → m ≡ n
unfolding le64
le64-injective m n p q e = sym (from_le_bytes-to_le_bytes_8 m p) ∙ ap (from_le_bytes w64) e ∙ from_le_bytes-to_le_bytes_8 n q

-- two numbers that the same bytes begin with are one, and so is what follows
pub le32-append-injective : (m n : ℕ) (xs ys : List ℕ) → m < 2 ^ 32 → n < 2 ^ 32 → le32 m ++ xs ≡ le32 n ++ ys → (m ≡ n) × (xs ≡ ys)
le32-append-injective m n xs ys p q e =
    let front : le32 m ≡ le32 n = sym (take_at (le32 m) xs 4 (length-le32 m)) ∙ ap (take 4) e ∙ take_at (le32 n) ys 4 (length-le32 n) in
    let back : xs ≡ ys = sym (drop_at (le32 m) xs 4 (length-le32 m)) ∙ ap (drop 4) e ∙ drop_at (le32 n) ys 4 (length-le32 n) in
    (le32-injective m n p q front, back)

pub le64-append-injective : (m n : ℕ) (xs ys : List ℕ) → m < 2 ^ 64 → n < 2 ^ 64 → le64 m ++ xs ≡ le64 n ++ ys → (m ≡ n) × (xs ≡ ys)
le64-append-injective m n xs ys p q e =
    let front : le64 m ≡ le64 n = sym (take_at (le64 m) xs 8 (length-le64 m)) ∙ ap (take 8) e ∙ take_at (le64 n) ys 8 (length-le64 n) in
    let back : xs ≡ ys = sym (drop_at (le64 m) xs 8 (length-le64 m)) ∙ ap (drop 8) e ∙ drop_at (le64 n) ys 8 (length-le64 n) in
    (le64-injective m n p q front, back)
