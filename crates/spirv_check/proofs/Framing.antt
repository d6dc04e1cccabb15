-- The instructions of a module, one after the other.
use Rattle.std.proofs.Common.{ℕ, ◌≡◌, ◌+◌, ◌≤◌, ◌⊎◌, inl, inr, List, [], ◌∷◌, ◌++◌, length, get_or, take, drop, refl, ap, sym, subst, ◌∙◌, arith}
use Rattle.std.proofs.lemmas.List.{length-append, take_at, drop_at, get_or_append_left}
use Rattle.spirv_check.specs.Modules.{Instruction, count_of, IsFramed, IsUnframed, Splits}

pub Splits-length : (at : ℕ) (words : List ℕ) (is : List Instruction) (rest : List ℕ) → Splits at words is rest → length rest ≤ length words
unfolding Splits
Splits-length at words [] rest s = let same = ap length s in omega arith
Splits-length at words (i ∷ is) rest s =
    let later = Splits-length (at + length i.words) s.0 is rest s.4 in
    let long = ap length s.1 ∙ length-append i.words s.0 in
    omega arith

-- one instruction more
pub Splits-push : (at : ℕ) (words : List ℕ) (is : List Instruction) (i rest : List ℕ) (place : ℕ) → Splits at words is (i ++ rest) → IsFramed i → place + length (i ++ rest) ≡ at + length words → Splits at words (is ++ record { at = place; words = i } ∷ []) rest
unfolding Splits
Splits-push at words [] i rest place s framed here =
    let same = ap length s in
    (rest, s, framed, (let p : place ≡ at = omega arith in p), refl)
Splits-push at words (j ∷ is) i rest place s framed here =
    let long = ap length s.1 ∙ length-append j.words s.0 in
    (s.0, s.1, s.2, s.3, Splits-push (at + length j.words) s.0 is i rest place s.4 framed (omega arith))

same_fronts : (a b x y : List ℕ) → length a ≡ length b → a ++ x ≡ b ++ y → (a ≡ b) × (x ≡ y)
same_fronts a b x y long e = (sym (take_at a x (length b) long) ∙ (ap (take (length b)) e ∙ take_at b y (length b) refl), sym (drop_at a x (length b) long) ∙ (ap (drop (length b)) e ∙ drop_at b y (length b) refl))

-- where no further instruction stands
abbrev pub IsEnd : List ℕ → Type 0
IsEnd rest = (rest ≡ []) ⊎ IsUnframed rest

first_of : (words after rest : List ℕ) → IsFramed words → rest ≡ words ++ after → (get_or rest 0 0 ≡ get_or words 0 0) × (length words ≤ length rest)
first_of words after rest framed e =
    let some = framed.some in
    let long = ap length e ∙ length-append words after in
    (ap (λ l. get_or l 0 0) e ∙ get_or_append_left words after 0 0 some, omega arith)

not_end : (words after rest : List ℕ) → IsFramed words → rest ≡ words ++ after → IsEnd rest → ⊥
not_end words after rest framed e stops =
    let first = first_of words after rest framed e in
    let some = framed.some in
    let long = first.1 in
    let count : count_of (get_or rest 0 0) ≡ length words = ap count_of first.0 ∙ framed.count in
    elim stops [
      | inl none ↦ let nothing = ap length none in omega arith
      | inr u ↦ elim u.count [ inl zero_count ↦ omega arith | inr past ↦ omega arith ]
    ]

one_front : (a b x y : List ℕ) → IsFramed a → IsFramed b → a ++ x ≡ b ++ y → (a ≡ b) × (x ≡ y)
one_front a b x y p q e =
    let some_a = p.some in
    let some_b = q.some in
    let first : get_or a 0 0 ≡ get_or b 0 0 = sym (get_or_append_left a x 0 0 some_a) ∙ (ap (λ l. get_or l 0 0) e ∙ get_or_append_left b y 0 0 some_b) in
    same_fronts a b x y (sym p.count ∙ (ap count_of first ∙ q.count)) e

pub one_split : (at : ℕ) (words others : List ℕ) (is js : List Instruction) (rest left : List ℕ) → words ≡ others → Splits at words is rest → Splits at others js left → IsEnd rest → IsEnd left → (is ≡ js) × (rest ≡ left)
unfolding Splits
one_split at words others [] [] rest left e s t p q = (refl, sym s ∙ (e ∙ t))
one_split at words others [] (j ∷ js) rest left e s t p q = absurd (not_end j.words t.0 rest t.2 (sym s ∙ (e ∙ t.1)) p)
one_split at words others (i ∷ is) [] rest left e s t p q = absurd (not_end i.words s.0 left s.2 (sym t ∙ (sym e ∙ s.1)) q)
one_split at words others (i ∷ is) (j ∷ js) rest left e s t p q =
    let one = one_front i.words j.words s.0 t.0 s.2 t.2 (sym s.1 ∙ (e ∙ t.1)) in
    let place : i.at ≡ j.at = s.3 ∙ sym t.3 in
    let same : i ≡ j = ap (λ (n : ℕ). record { at = n; words = i.words }) place ∙ ap (λ (ws : List ℕ). record { at = j.at; words = ws }) one.0 in
    let more = one_split (at + length i.words) s.0 t.0 is js rest left one.1 s.4 (subst (λ (n : ℕ). Splits (at + n) t.0 js left) (sym (ap length one.0)) t.4) p q in
    (ap (λ (k : Instruction). k ∷ is) same ∙ ap (λ (ks : List Instruction). j ∷ ks) more.0, more.1)
