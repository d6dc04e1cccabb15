-- Texts of digits, joined and cut.
use Rattle.std.proofs.Common.{ℕ, zero, suc, List, [], ◌∷◌, ◌++◌, take, drop, subst}
use Rattle.std.specs.Str.Parse.{AllDigits}
use Rattle.std.proofs.lemmas.List.{take-append-drop}

pub AllDigits-append : (radix : ℕ) (xs ys : List ℕ) → AllDigits radix xs → AllDigits radix ys → AllDigits radix (xs ++ ys)
AllDigits-append radix [] ys p q = q
AllDigits-append radix (x ∷ xs) ys p q = (p.0, AllDigits-append radix xs ys p.1 q)

-- a text is of digits where its beginning and the rest are
pub AllDigits-parts : (radix n : ℕ) (ds : List ℕ) → AllDigits radix (take n ds) → AllDigits radix (drop n ds) → AllDigits radix ds
AllDigits-parts radix n ds p q = subst (AllDigits radix) (take-append-drop n ds) (AllDigits-append radix (take n ds) (drop n ds) p q)

pub AllDigits-take : (radix n : ℕ) (ds : List ℕ) → AllDigits radix ds → AllDigits radix (take n ds)
AllDigits-take radix zero ds all = tt
AllDigits-take radix (suc n) [] all = tt
AllDigits-take radix (suc n) (d ∷ ds) all = (all.0, AllDigits-take radix n ds all.1)

pub AllDigits-drop : (radix n : ℕ) (ds : List ℕ) → AllDigits radix ds → AllDigits radix (drop n ds)
AllDigits-drop radix zero ds all = all
AllDigits-drop radix (suc n) [] all = tt
AllDigits-drop radix (suc n) (d ∷ ds) all = AllDigits-drop radix n ds all.1
