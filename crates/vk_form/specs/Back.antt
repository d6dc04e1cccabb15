-- Lists and options of structures, made again from their plain values.
use Rattle.std.specs.Prelude.{◌≡◌, List, [], ◌∷◌, map, Option, Some, None, refl}
use Rattle.std.specs.Option.{option_map}

pub each_back : {A B : Type 0} (of : B → A) (plain : A → B) → ((x : A) → of (plain x) ≡ x) → (xs : List A) → map of (map plain xs) ≡ xs
each_back of plain back [] = refl
each_back of plain back (x ∷ xs) =
    let first = back x in
    let others = each_back of plain back xs in
    cc

pub optional_back : {A B : Type 0} (of : B → A) (plain : A → B) → ((x : A) → of (plain x) ≡ x) → (o : Option A) → option_map of (option_map plain o) ≡ o
optional_back of plain back None = refl
optional_back of plain back (Some x) =
    let first = back x in
    cc
