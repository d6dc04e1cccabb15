-- Answers in the order of their lines.
use Rattle.std.specs.Prelude.{◌≡◌, ◌≢◌, ℕ, ◌+◌, ◌<◌, ◌≤◌, ⊤, List, [], ◌∷◌, Option, Some, None}
use Rattle.record_words.specs.declared.answered.Answered.{Answered}

module _ {Cause : Type 0} where
  -- the lines rise, from this one on and up to that one, which is no more among them
  abbrev pub Rise : ℕ → ℕ → List (Answered Cause) → Type 0
  Rise low high [] = ⊤
  Rise low high (answered ∷ rest) = (low ≤ answered.line) × (answered.line < high) × Rise (answered.line + 1) high rest

  -- the first answer was taken where it is to this line
  abbrev pub IsTaken : ℕ → List (Answered Cause) → Option (Answered Cause) → List (Answered Cause) → Type 0
  IsTaken line before (Some answered) after = (before ≡ answered ∷ after) × (answered.line ≡ line)
  IsTaken line before None after = (after ≡ before) × ((first : Answered Cause) (rest : List (Answered Cause)) → before ≡ first ∷ rest → first.line ≢ line)
