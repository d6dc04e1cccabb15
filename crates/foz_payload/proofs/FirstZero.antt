-- The first zero byte parts a payload.
use Rattle.std.proofs.Common.{◌≡◌, ℕ, ◌+◌, ◌<◌, List, [], ◌∷◌, length, take, drop, Option, Some, None, true, false, inl, inr, refl, sym, ap, ◌∙◌, arith}
use Rattle.std.specs.Prelude.{not, nat_lt}
use Rattle.std.specs.List.{position, prefix_len}
use Rattle.std.proofs.lemmas.Bool.{cases_Bool}
use Rattle.std.proofs.lemmas.Bool.Decides.{nat_tests}
use Rattle.std.proofs.lemmas.List.{take_all}
use Rattle.std.proofs.lemmas.List.Folds.{length-prefix_len}
use Rattle.foz_payload.specs.Parts.{is_zero, has_zero, json_part, behind_zero}

abbrev pub place : List ℕ → ℕ
place bytes = prefix_len (λ byte. not (is_zero byte)) bytes

zero_below : (bytes : List ℕ) → has_zero bytes ≡ nat_lt (place bytes) (length bytes)
zero_below [] = refl
zero_below (b ∷ bytes) = elim (cases_Bool (is_zero b)) [
  | inl so ↦ grind (arith, nat_tests, so)
  | inr other ↦ grind (arith, nat_tests, other, zero_below bytes)
]

pub at_zero : (bytes : List ℕ) (k : ℕ) → position is_zero bytes ≡ Some k → (k ≡ place bytes) × (k < length bytes)
at_zero bytes k e = elim (cases_Bool (nat_lt (place bytes) (length bytes))) [
  | inl within ↦
      let found : Some (place bytes) ≡ Some k = rw within at e in
      let same : k ≡ place bytes = cc in
      (same, grind (arith, nat_tests, same, within))
  | inr out ↦ absurd (let none : ◌≡◌ {A = Option ℕ} None (Some k) = rw out at e in cc)
]

pub no_zero : (bytes : List ℕ) → position is_zero bytes ≡ None → nat_lt (place bytes) (length bytes) ≡ false
no_zero bytes e = elim (cases_Bool (nat_lt (place bytes) (length bytes))) [
  | inl within ↦ absurd (let none : ◌≡◌ {A = Option ℕ} (Some (place bytes)) None = rw within at e in cc)
  | inr out ↦ out
]

pub part_before : (bytes : List ℕ) (k : ℕ) → position is_zero bytes ≡ Some k → take k bytes ≡ json_part bytes
unfolding json_part
part_before bytes k e = ap (λ n. take n bytes) (at_zero bytes k e).0

pub part_all : (bytes : List ℕ) → position is_zero bytes ≡ None → bytes ≡ json_part bytes
unfolding json_part
part_all bytes e = sym (take_all (place bytes) bytes (grind (arith, nat_tests, no_zero bytes e)))

pub part_behind : (bytes : List ℕ) (k : ℕ) → position is_zero bytes ≡ Some k → drop (k + 1) bytes ≡ behind_zero bytes
unfolding json_part behind_zero
part_behind bytes k e = ap (λ n. drop (n + 1) bytes) ((at_zero bytes k e).0 ∙ sym (length-prefix_len (λ byte. not (is_zero byte)) bytes))

pub with_zero : (bytes : List ℕ) (k : ℕ) → position is_zero bytes ≡ Some k → has_zero bytes ≡ true
with_zero bytes k e =
    let there = at_zero bytes k e in
    zero_below bytes ∙ grind (arith, nat_tests, there.0, there.1)

pub without_zero : (bytes : List ℕ) → position is_zero bytes ≡ None → has_zero bytes ≡ false
without_zero bytes e = zero_below bytes ∙ no_zero bytes e
