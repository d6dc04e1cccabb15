-- Lines of places in a row, one after the other.
use Rattle.std.proofs.Common.{◌≡◌, ℕ, zero, suc, ◌+◌, List, [], ◌∷◌, ◌++◌, sym, ap, ◌∙◌, append_assoc, arith}
use Rattle.std.specs.List.{flat_map, range_with_len}
use Rattle.std.proofs.lemmas.List.{flat_map_more}

range_from_push : (a n m : ℕ) → m ≡ a + n → range_with_len a (suc n) ≡ range_with_len a n ++ m ∷ []
range_from_push a zero m e = let same : a ≡ m = omega (arith, e) in ap (λ k. k ∷ []) same
range_from_push a (suc n) m e = ap (λ ks. a ∷ ks) (range_from_push (a + 1) n m (omega (arith, e)))

range_push : (n : ℕ) → range_with_len 0 (n + 1) ≡ range_with_len 0 n ++ n ∷ []
range_push n = let same : n + 1 ≡ suc n = omega arith in ap (range_with_len 0) same ∙ range_from_push 0 n n (omega arith)

pub line_more : (line : ℕ → List ℕ) (start written more : List ℕ) (n : ℕ) → written ≡ start ++ flat_map line (range_with_len 0 n) → more ≡ written ++ line n → more ≡ start ++ flat_map line (range_with_len 0 (n + 1))
line_more line start written more n so_far wrote =
    wrote
    ∙ (ap (λ (l : List ℕ). l ++ line n) so_far
    ∙ (flat_map_more line start (range_with_len 0 n) n
    ∙ ap (λ (ns : List ℕ). start ++ flat_map line ns) (sym (range_push n))))

-- two texts after the lines
pub two_more : (start lines first second a b c : List ℕ) → a ≡ start ++ lines → b ≡ a ++ first → c ≡ b ++ second → c ≡ start ++ (lines ++ (first ++ second))
two_more start lines first second a b c all one two =
    two ∙ (ap (λ (l : List ℕ). l ++ second) (one ∙ ap (λ (l : List ℕ). l ++ first) all)
    ∙ (append_assoc (start ++ lines) first second ∙ append_assoc start lines (first ++ second)))
