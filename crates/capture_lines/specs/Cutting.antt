-- A line at its first blank.
use Rattle.std.specs.Prelude.{ℕ, List, [], ◌∷◌, Bool, true, ◌==◌, if◌then◌else◌, Option, Some, None, option_map}

-- An empty line, and one that begins with `#`, holds no state.
abbrev pub is_skipped : List ℕ → Bool
is_skipped [] = true
is_skipped (byte ∷ bytes) = byte == 35

abbrev pub behind : ℕ → Option (List ℕ × List ℕ) → Option (List ℕ × List ℕ)
behind byte parts = option_map (λ p. (byte ∷ p.0, p.1)) parts

-- what stands before the first blank and what follows it, if there is one
unfoldable pub cut : List ℕ → Option (List ℕ × List ℕ)
cut [] = None
cut (byte ∷ bytes) = if byte == 32 then Some ([], bytes) else behind byte (cut bytes)
