-- Rules, each with the code that answers a state which breaks it.
use Rattle.std.specs.Prelude.{ℕ, Bool, if◌then◌else◌, List, [], ◌∷◌}

-- the code of the first rule that doesn't hold, or 0
abbrev pub first_broken : List (ℕ × Bool) → ℕ
first_broken [] = 0
first_broken (rule ∷ rules) = if rule.1 then first_broken rules else rule.0
