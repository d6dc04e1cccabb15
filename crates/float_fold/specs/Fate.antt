-- What becomes of a piece.
use Rattle.std.specs.Prelude.{ℕ, List, take, Option, Some, None}
use Rattle.float_fold.specs.declared.piece.Fate.{Fate}
use Rattle.float_fold.specs.declared.piece.Fate.TheVariants.{Stays, ToFirst, Refused}

abbrev pub outcome : Fate → List ℕ → Option (List ℕ)
outcome Stays piece = Some piece
outcome ToFirst piece = Some (take 1 piece)
outcome Refused piece = None
