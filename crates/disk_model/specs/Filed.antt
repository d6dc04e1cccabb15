-- Files by their names: those that were given, and the slots of those that were out at some time.
use Rattle.std.specs.Prelude.{ℕ, Bool, List, [], ◌∷◌, Option, Some, None, if◌then◌else◌}
use Rattle.std.specs.Str.{bytes_eq}
use Rattle.disk_model.specs.Place.{Place, missing, stored, out}

-- what stands in a slot
abbrev pub held : {D : Type 0} → Option D → Place D
held None = out
held (Some disk) = stored disk

module _ {S : Type 0} (bytes : S → List ℕ) where
  -- a text spells this name
  abbrev pub spells : List ℕ → S → Bool
  spells name text = bytes_eq (bytes text) name

  -- the first file of a name
  abbrev pub file_in : {D : Type 0} → List (S × D) → List ℕ → Place D
  file_in [] name = missing
  file_in (file ∷ files) name = if bytes_eq (bytes file.0) name then stored file.1 else file_in files name

  -- what stands under a name: what its slot holds, or where it has none the file that was given
  abbrev pub place_in : {D : Type 0} → List (S × Option D) → List (S × D) → List ℕ → Place D
  place_in [] given name = file_in given name
  place_in (slot ∷ slots) given name = if bytes_eq (bytes slot.0) name then held slot.1 else place_in slots given name
