-- What stands under the names of a shelf.
use Rattle.std.specs.Prelude.{ℕ, List, if◌then◌else◌}
use Rattle.std.specs.Str.{bytes_eq}

-- there is no file of a name, or it is here, or it is taken
pub data Place (H : Type 0) : Type 0 where
  missing : Place H
  stored : H → Place H
  out : Place H

-- the same places, but another one under this name
abbrev pub with_place : {H : Type 0} → (List ℕ → Place H) → List ℕ → Place H → List ℕ → Place H
with_place places name place = λ other. if bytes_eq name other then place else places other
