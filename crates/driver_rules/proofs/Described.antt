-- The numbers of described buffers, one more each time.
use Rattle.std.proofs.Common.{ℕ, ◌≡◌, ◌+◌, ◌<◌, Bool, true, false, cond, ◌==◌, ◌||◌, List, [], ◌∷◌, length, get_or, take, refl, ap, sym, ◌∙◌}
use Rattle.std.specs.List.{list_all, list_any}
use Rattle.std.proofs.lemmas.List.Folds.{list_any_more}
use Rattle.vk_pipe.specs.declared.vertex.VertexBinding.{VertexBinding}
use Rattle.driver_rules.specs.Graphics.{is_described}

pub all_same : {A : Type 0} (p q : A → Bool) → ((x : A) → p x ≡ q x) → (xs : List A) → list_all p xs ≡ list_all q xs
all_same p q same [] = refl
all_same p q same (x ∷ xs) = rw (same x, all_same p q same xs) refl

or_else : (a b : Bool) → cond a true b ≡ (b || a)
or_else true true = refl
or_else true false = refl
or_else false true = refl
or_else false false = refl

pub one_more_described : (bindings : List VertexBinding) (i q : ℕ) (d : VertexBinding) → i < length bindings → cond ((get_or bindings i d).binding == q) true (is_described (take i bindings) q) ≡ is_described (take (i + 1) bindings) q
one_more_described bindings i q d lt = or_else ((get_or bindings i d).binding == q) (is_described (take i bindings) q) ∙ sym (list_any_more (λ (b : VertexBinding). b.binding == q) bindings i d lt)
