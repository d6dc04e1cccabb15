-- Rows of counts, in the order in which they were published.
use Rattle.std.specs.Prelude.{◌≡◌, ℕ, ◌≤◌, List, [], ◌∷◌, ◌++◌}
use Rattle.replay_core.specs.declared.counts.Counts.{Counts}

abbrev pub words_of : Counts → List ℕ
words_of c = c.events ∷ c.done ∷ c.refused ∷ c.blamed ∷ c.missing ∷ c.deaths ∷ c.restarts ∷ c.retired ∷ []

-- the events never fall, from low on, and stay within the most
abbrev pub Rise : ℕ → List Counts → Type 0
Rise low [] = low ≤ 2147483647
Rise low (c ∷ cs) = (low ≤ c.events) × Rise c.events cs

-- c is the last of the rows
abbrev pub EndsWith : List Counts → Counts → Type 0
EndsWith rows c = (front : List Counts) × (rows ≡ front ++ c ∷ [])
