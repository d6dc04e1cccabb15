-- Texts that grow.
use Rattle.std.specs.Prelude.{◌≡◌, ℕ, List, ◌++◌}

-- the bytes begin with these
pub record BeginsWith (front bytes : List ℕ) : Type 0 where
  pub rest : List ℕ
  pub is : bytes ≡ front ++ rest
