-- The first bytes of a file, filled up with zeros.
use Rattle.std.proofs.Common.{◌≡◌, ℕ, suc, ◌+◌, ◌-◌, ◌<◌, ◌≤◌, List, [], ◌∷◌, ◌++◌, length, get_or, set, take, replicate, sym, ap, ◌∙◌, append_assoc, arith}
use Rattle.std.proofs.lemmas.List.{set_at, take_more, length-take, take_all}
use Rattle.foz_archive.specs.Refusal.{first_bytes}

abbrev pub filled : ℕ → List ℕ → List ℕ
filled place bytes = take place bytes ++ replicate (16 - place) 0

pub filled_more : (place : ℕ) (bytes first : List ℕ) → place < length bytes → place < 16 → first ≡ filled place bytes → set first place (get_or bytes place 0) ≡ filled (place + 1) bytes
filled_more place bytes first lt room is =
    let left : 16 - place ≡ suc (16 - (place + 1)) = omega arith in
    let front : length (take place bytes) ≡ place = omega (arith, length-take place bytes) in
    rw (is, left) (rw (set_at (take place bytes) 0 (replicate (16 - (place + 1)) 0) (get_or bytes place 0) place front, take_more bytes place 0 lt) (sym (append_assoc (take place bytes) (get_or bytes place 0 ∷ []) (replicate (16 - (place + 1)) 0))))

pub filled_all : (place : ℕ) (bytes first : List ℕ) → place ≤ length bytes → place ≤ 16 → length bytes ≤ place → first ≡ filled place bytes → first ≡ first_bytes bytes
unfolding first_bytes
filled_all place bytes first a b c is = is ∙ rw (take_all place bytes c, take_all 16 bytes (omega arith)) (ap (λ (n : ℕ). bytes ++ replicate (16 - n) 0) (omega arith))

pub filled_full : (bytes first : List ℕ) (place : ℕ) → place ≡ 16 → 16 ≤ length bytes → first ≡ filled place bytes → first ≡ first_bytes bytes
unfolding first_bytes
filled_full bytes first place e a is = let left : 16 - length bytes ≡ 0 = omega arith in rw left (rw e at is)
