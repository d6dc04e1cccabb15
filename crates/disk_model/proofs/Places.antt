-- What stands under a name after a call of a shelf.
use Rattle.std.proofs.Common.{◌≡◌, ℕ, false, List, refl}
use Rattle.std.specs.Str.{bytes_eq}
use Rattle.std.proofs.lemmas.Slice.Eq.{bytes_eq-Decides}
use Rattle.disk_model.specs.Place.{Place, with_place}

module _ {H : Type 0} (before after : List ℕ → Place H) (name : List ℕ) (place : Place H) (is : after ≡ with_place before name place) where
  pub place_there : after name ≡ place
  place_there = rw (is, (bytes_eq-Decides name name).1 refl) refl

  pub place_elsewhere : (other : List ℕ) → bytes_eq name other ≡ false → after other ≡ before other
  place_elsewhere other apart = rw (is, apart) refl
