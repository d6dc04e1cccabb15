-- Rules one after the other.
use Rattle.std.proofs.Common.{ℕ, ◌≡◌, ◌+◌, ◌<◌, Bool, cond, List, [], ◌∷◌, length, get_or, drop, refl, add-one, drop-cons}
use Rattle.driver_rules.specs.Rules.{first_broken}

pub next_rule : (rules : List (ℕ × Bool)) (i : ℕ) (d : ℕ × Bool) → i < length rules → first_broken (drop i rules) ≡ cond (get_or rules i d).1 (first_broken (drop (i + 1) rules)) (get_or rules i d).0
next_rule rules i d lt = rw (add-one, drop-cons rules i d) refl
