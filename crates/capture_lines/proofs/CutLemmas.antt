-- Where a line is cut.
use Rattle.std.proofs.Common.{◌≡◌, ℕ, suc, ◌+◌, ◌<◌, ◌≤◌, ◌==◌, List, [], ◌∷◌, take, drop, length, Bool, true, false, not, cond, Option, Some, None, nat_lt, inl, inr, refl, sym, ap, ◌∙◌, add-one, arith}
use Rattle.std.specs.Prelude.{position, option_map}
use Rattle.std.specs.List.{position_or_len}
use Rattle.std.proofs.lemmas.Bool.{cases_lt, lt-ltb, le-ltb}
use Rattle.capture_lines.specs.Cutting.{cut, behind}

abbrev pub is_blank : ℕ → Bool
is_blank byte = byte == 32

abbrev pub cut_at : List ℕ → Option ℕ → Option (List ℕ × List ℕ)
cut_at line None = None
cut_at line (Some at) = Some (take at line, drop (at + 1) line)

abbrev where_passes : Bool → ℕ → Option ℕ
where_passes within at = cond within (Some at) None

shifted : (within : Bool) (b : ℕ) (bs : List ℕ) (at next : ℕ) → next ≡ suc at → behind b (cut_at bs (where_passes within at)) ≡ cut_at (b ∷ bs) (where_passes within next)
shifted false b bs at next e = refl
shifted true b bs at next e = rw (e, add-one (suc at), add-one at) refl

further : (m n next : ℕ) → next ≡ suc m → nat_lt next (suc n) ≡ nat_lt m n
further m n next e = elim (cases_lt m n) [
  | inl lt ↦ lt-ltb next (suc n) (omega arith) ∙ sym (lt-ltb m n lt)
  | inr le ↦ le-ltb next (suc n) (omega arith) ∙ sym (le-ltb m n le)
]

step : (b : ℕ) (bs : List ℕ) (blank : Bool) → (b == 32) ≡ blank → cut bs ≡ cut_at bs (position is_blank bs) → cut (b ∷ bs) ≡ cut_at (b ∷ bs) (position is_blank (b ∷ bs))
unfolding cut
step b bs true e ih = rw (e, lt-ltb 0 (suc (length bs)) (omega arith)) refl
step b bs false e ih =
    let at = position_or_len is_blank bs in
    let next : 1 + at ≡ suc at = omega arith in
    rw (e, ih, further at (length bs) (1 + at) next) (shifted (nat_lt at (length bs)) b bs at (1 + at) next)

pub is_cut : (line : List ℕ) → cut line ≡ cut_at line (position is_blank line)
unfolding cut
is_cut [] = refl
is_cut (b ∷ bs) = step b bs (b == 32) refl (is_cut bs)
