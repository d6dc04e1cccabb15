-- The number that the bytes of a varint stand for.
use Rattle.std.proofs.Common.{ℕ, zero, suc, ◌≡◌, ◌+◌, ◌*◌, ◌%◌, ◌^◌, ◌<◌, ◌≤◌, List, [], ◌∷◌, ◌++◌, length, refl, ap, ◌∙◌, arith}
use Rattle.std.proofs.Math.Nat.{pow-succ', mul_assoc}
use Rattle.spirv_varint.specs.Varint.{number_of, GoOn}

pub GoOn-push : (front : List ℕ) (byte : ℕ) → GoOn front → 128 ≤ byte → byte < 256 → GoOn (front ++ byte ∷ [])
GoOn-push [] byte on least most = ((least, most), tt)
GoOn-push (b ∷ bs) byte on least most = (on.0, GoOn-push bs byte on.1 least most)

pub number_of-push : (front : List ℕ) (byte : ℕ) → number_of (front ++ byte ∷ []) ≡ number_of front + 128 ^ length front * (byte % 128)
unfolding number_of
number_of-push [] byte = omega arith
number_of-push (b ∷ bs) byte =
    let rest = number_of-push bs byte in
    let power : 128 ^ length (b ∷ bs) ≡ 128 * 128 ^ length bs = pow-succ' 128 (length bs) in
    let joined : 128 ^ length (b ∷ bs) * (byte % 128) ≡ 128 * (128 ^ length bs * (byte % 128)) = ap (λ n. n * (byte % 128)) power ∙ mul_assoc 128 (128 ^ length bs) (byte % 128) in
    omega (arith, rest, joined)

pub number_below : (bytes : List ℕ) → number_of bytes < 128 ^ length bytes
unfolding number_of
number_below [] = omega arith
number_below (b ∷ bs) =
    let rest = number_below bs in
    let power : 128 ^ length (b ∷ bs) ≡ 128 * 128 ^ length bs = pow-succ' 128 (length bs) in
    omega (arith, rest, power)

-- seven bits more, above those of up to four bytes, fit 32 bits
pub joined : (taken word low : ℕ) → taken ≤ 4 → word < 128 ^ taken → low < 128 → (taken ≡ 4 → low ≤ 15) → (low * 2 ^ (7 * taken) % 2 ^ 32 ≡ 128 ^ taken * low) × (word + low * 2 ^ (7 * taken) % 2 ^ 32 < 2 ^ 32)
joined zero word low most within bits fifth = (omega arith, omega arith)
joined (suc zero) word low most within bits fifth = (omega arith, omega arith)
joined (suc (suc zero)) word low most within bits fifth = (omega arith, omega arith)
joined (suc (suc (suc zero))) word low most within bits fifth = (omega arith, omega arith)
joined (suc (suc (suc (suc zero)))) word low most within bits fifth = let least = fifth refl in (omega arith, omega arith)
joined (suc (suc (suc (suc (suc n))))) word low most within bits fifth = absurd (omega arith)
