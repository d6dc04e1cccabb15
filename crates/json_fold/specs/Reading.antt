-- What a JSON value is read as: the first fault in the order of the fields, or the plain value.
use Rattle.std.specs.Prelude.{ℕ, ◌+◌, List, [], ◌∷◌, Option, Some, None, is_some, Result, Ok, Err, if◌then◌else◌, ⊤, codes}
use Rattle.foz_words.specs.declared.unit.Unit.{Unit}
use Rattle.foz_words.specs.declared.unit.Unit.TheVariants.{Zero}
use Rattle.serde_json.specs.Data.{Data, Items, no_items, item}
use Rattle.serde_json.specs.Find.{get}
use Rattle.vk_form.specs.Shape.{Shape, number, unit, hash, text, bytes, four_units, list, struct, Fields, end, field, optional, Plain, Plains}
use Rattle.json_fold.specs.declared.fault.FieldCause.TheVariants.{HasPNext, BadLength}
use Rattle.json_fold.specs.Fault.{Fault, ◌>>=◌, at, member_path, item_path}
use Rattle.json_fold.specs.Leaf.{number_of, unit_of, hash_of, text_of, bytes_of, items_of, is_object}

-- what a missing member stands for
abbrev mutual
  pub missing : (s : Shape) → Plain s
  missing number = 0
  missing unit = Zero
  missing hash = 0
  missing text = []
  missing bytes = []
  missing four_units = (Zero, (Zero, (Zero, Zero)))
  missing (list s) = []
  missing (struct fs) = all_missing fs

  pub all_missing : (fs : Fields) → Plains fs
  all_missing end = tt
  all_missing (field name s fs) = (missing s, all_missing fs)
  all_missing (optional name o fs) = (None, all_missing fs)

abbrev pub or_missing : {A : Type 0} → A → (Data → List ℕ → Result A Fault) → Option Data → List ℕ → Result A Fault
or_missing m read None path = Ok m
or_missing m read (Some d) path = read d path

abbrev pub if_there : {A : Type 0} → (Data → List ℕ → Result A Fault) → Option Data → List ℕ → Result (Option A) Fault
if_there read None path = Ok None
if_there read (Some d) path = read d path >>= λ x. Ok (Some x)

-- one after the other, the first of them at k
abbrev pub each : {A : Type 0} → (Data → List ℕ → Result A Fault) → Items → ℕ → List ℕ → Result (List A) Fault
each read no_items k path = Ok []
each read (item d ds) k path = read d (item_path path k) >>= λ x. each read ds (k + 1) path >>= λ xs. Ok (x ∷ xs)

-- four units, no more and no less
abbrev pub four_of : Items → List ℕ → Result (Unit × (Unit × (Unit × Unit))) Fault
four_of no_items path = Err (path, BadLength)
four_of (item a no_items) path = Err (path, BadLength)
four_of (item a (item b no_items)) path = Err (path, BadLength)
four_of (item a (item b (item c no_items))) path = Err (path, BadLength)
four_of (item a (item b (item c (item d no_items)))) path =
    at (item_path path 0) (unit_of a) >>= λ u. at (item_path path 1) (unit_of b) >>= λ v. at (item_path path 2) (unit_of c) >>= λ w. at (item_path path 3) (unit_of d) >>= λ x. Ok (u, (v, (w, x)))
four_of (item a (item b (item c (item d (item e more))))) path = Err (path, BadLength)

-- an object without `pNext`
unfoldable pub opened : Data → List ℕ → Result ⊤ Fault
opened d path = at path (is_object d) >>= λ _. if is_some (get (codes "pNext") d) then Err (member_path path (codes "pNext"), HasPNext) else Ok tt

abbrev mutual
  pub reading : (s : Shape) → Data → List ℕ → Result (Plain s) Fault
  reading number d path = at path (number_of d)
  reading unit d path = at path (unit_of d)
  reading hash d path = at path (hash_of d)
  reading text d path = at path (text_of d)
  reading bytes d path = at path (bytes_of d)
  reading four_units d path = at path (items_of d) >>= λ ds. four_of ds path
  reading (list s) d path = at path (items_of d) >>= λ ds. each (reading s) ds 0 path
  reading (struct fs) d path = opened d path >>= λ _. fields_reading fs d path

  pub fields_reading : (fs : Fields) → Data → List ℕ → Result (Plains fs) Fault
  fields_reading end d path = Ok tt
  fields_reading (field name s fs) d path =
      or_missing (missing s) (reading s) (get name d) (member_path path name) >>= λ x. fields_reading fs d path >>= λ xs. Ok (x, xs)
  fields_reading (optional name o fs) d path =
      if_there (λ e p. opened e p >>= λ _. fields_reading o e p) (get name d) (member_path path name) >>= λ x. fields_reading fs d path >>= λ xs. Ok (x, xs)
