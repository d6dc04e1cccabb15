-- How the places of a shelf in memory change.
use Rattle.std.proofs.Common.{◌≡◌, ◌≢◌, IfSome, IfNone, Bor, ℕ, zero, suc, ◌+◌, ◌<◌, Bool, true, false, cond, List, [], ◌∷◌, ◌++◌, length, get_or, set, ◌≤◌, Option, Some, None, refl, sym, ◌∙◌, ap, subst, arith}
use Rattle.std.specs.Prelude.{◌||◌, not, is_some, option_copied}
use mathlib.Core.Path.{fun_ext}
use Rattle.std.specs.Str.{bytes_eq}
use Rattle.std.specs.List.{list_any, position, position_or_len, remove}
use Rattle.std.proofs.lemmas.Grind.{common_steps}
use Rattle.std.proofs.lemmas.Slice.Eq.{bytes_eq-Decides}
use Rattle.std.proofs.lemmas.List.Quantifiers.{position-Some}
use Rattle.disk_model.specs.Place.{Place, missing, stored, out, with_place}
use Rattle.disk_model.specs.Filed.{held, spells, file_in, place_in}

neither : (a b : Bool) → (a || b) ≡ false → (a ≡ false) × (b ≡ false)
neither true b e = absurd cc
neither false b e = (refl, e)

-- where no place is found, no element passes
module _ {X : Type 0} (p : X → Bool) where
  past_all : (xs : List X) → position p xs ≡ None → length xs ≤ position_or_len p xs
  past_all xs none = grind (arith, common_steps)

  passes_past : (b : Bool) (n place : ℕ) → suc n ≤ cond (not b) (1 + place) 0 → (b ≡ false) × (n ≤ place)
  passes_past true n place le = absurd (omega arith)
  passes_past false n place le = (refl, omega arith)

  none_passes : (xs : List X) → length xs ≤ position_or_len p xs → list_any p xs ≡ false
  none_passes [] le = refl
  none_passes (x ∷ xs) le = let fails = passes_past (p x) (length xs) (position_or_len p xs) le in rw (fails.0) (none_passes xs fails.1)

  pub list_any-from_none : (xs : List X) → position p xs ≡ None → list_any p xs ≡ false
  list_any-from_none xs none = none_passes xs (past_all xs none)

module _ {D : Type 0} where
  -- an earlier name doesn't hide a later one that differs from it
  past : (a b : Bool) (here there rest : Place D) → (b ≡ true → a ≡ false) → cond a here (cond b there rest) ≡ cond b there (cond a here rest)
  past true true here there rest apart = absurd (let same : true ≡ false = apart refl in cc)
  past true false here there rest apart = refl
  past false b here there rest apart = refl

  twice : (b : Bool) (new old rest : Place D) → cond b new rest ≡ cond b new (cond b old rest)
  twice true new old rest = refl
  twice false new old rest = refl

  elsewhere : (b : Bool) (new before after : Place D) → (b ≡ false → after ≡ before) → cond b new after ≡ cond b new before
  elsewhere true new before after same = refl
  elsewhere false new before after same = same refl

  held_there : (slot : Option D) → held slot ≢ missing
  held_there None e = cc
  held_there (Some disk) e = cc

  missed : (b among : Bool) (slot : Option D) (place : Place D) → (place ≡ missing → among ≡ false) → cond b (held slot) place ≡ missing → (b || among) ≡ false
  missed true among slot place rest e = absurd (held_there slot e)
  missed false among slot place rest e = rest e

  chosen_out : (b : Bool) (disk : D) (place : Place D) → (place ≡ out → ⊥) → cond b (stored disk) place ≡ out → ⊥
  chosen_out true disk place rest e = cc
  chosen_out false disk place rest e = rest e

  -- what a slot lends or gives is what stands there
  pub lent_some : (place : Place D) (slot : Option D) (lent : Option (Bor D)) → option_copied lent ≡ slot → place ≡ held slot → IfSome lent (λ file. place ≡ stored file.now)
  lent_some place slot None e is = tt
  lent_some place slot (Some file) e is = is ∙ ap held (sym e)

  pub lent_none : (place : Place D) (slot : Option D) (lent : Option (Bor D)) → option_copied lent ≡ slot → place ≡ held slot → IfNone lent ((file : D) → place ≢ stored file)
  lent_none place slot None e is = λ file same. let is_out : place ≡ out = is ∙ ap held (sym e) in cc
  lent_none place slot (Some file) e is = tt

  pub taken_some : (place : Place D) (slot taken : Option D) → taken ≡ slot → place ≡ held slot → IfSome taken (λ file. place ≡ stored file)
  taken_some place slot None e is = tt
  taken_some place slot (Some file) e is = is ∙ ap held (sym e)

  pub taken_none : (P : Type 0) (place : Place D) (slot taken : Option D) → taken ≡ slot → place ≡ held slot → place ≢ out → IfNone taken P
  taken_none P place slot None e is here = absurd (here (is ∙ ap held (sym e)))
  taken_none P place slot (Some file) e is here = tt

  pub stored_not_missing : (place : Place D) (file : D) → place ≡ stored file → place ≢ missing
  stored_not_missing place file is e = cc

  pub missing_not_stored : (place : Place D) → place ≡ missing → (file : D) → place ≢ stored file
  missing_not_stored place is file e = cc

module _ {S : Type 0} (bytes : S → List ℕ) where
  -- a text spells one name alone
  spells_other : (text : S) (name other : List ℕ) → spells bytes name text ≡ true → bytes_eq name other ≡ false → spells bytes other text ≡ false
  spells_other text name other is apart = subst (λ (n : List ℕ). bytes_eq n other ≡ false) (sym ((bytes_eq-Decides (bytes text) name).0 is)) apart

  -- and what doesn't spell a name spells none that equals it
  spells_neither : (text : S) (name other : List ℕ) → spells bytes name text ≡ false → bytes_eq name other ≡ true → spells bytes other text ≡ false
  spells_neither text name other not same = subst (λ (n : List ℕ). spells bytes n text ≡ false) ((bytes_eq-Decides name other).0 same) not

  pub spelled : {X : Type 0} (named : List (S × X)) (name : List ℕ) (i : ℕ) (d : S × X) → position (λ (one : S × X). spells bytes name one.0) named ≡ Some i → bytes (get_or named i d).0 ≡ name
  spelled {X} named name i d found = (bytes_eq-Decides (bytes (get_or named i d).0) name).0 (position-Some (λ (one : S × X). spells bytes name one.0) named i d found).1

  module _ {D : Type 0} where
    no_such_file : (files : List (S × D)) (name : List ℕ) → list_any (λ (file : S × D). spells bytes name file.0) files ≡ false → file_in bytes files name ≡ missing
    no_such_file [] name none = refl
    no_such_file (file ∷ files) name none = let fails = neither (spells bytes name file.0) (list_any (λ (f : S × D). spells bytes name f.0) files) none in rw (fails.0) (no_such_file files name fails.1)

    pub no_file : (files : List (S × D)) (name : List ℕ) → position (λ (file : S × D). spells bytes name file.0) files ≡ None → file_in bytes files name ≡ missing
    no_file files name none = no_such_file files name (list_any-from_none _ files none)

    first_file : (files : List (S × D)) (name : List ℕ) (i : ℕ) (d : S × D) → i < length files → spells bytes name (get_or files i d).0 ≡ true
        → ((k : ℕ) → k < i → spells bytes name (get_or files k d).0 ≡ false) → file_in bytes files name ≡ stored (get_or files i d).1
    first_file [] name i d within is before = absurd (omega arith)
    first_file (file ∷ files) name zero d within is before = rw is refl
    first_file (file ∷ files) name (suc i) d within is before =
        rw (before 0 (omega arith)) (first_file files name i d (omega arith) is (λ k less. before (suc k) (omega arith)))

    pub found_file : (files : List (S × D)) (name : List ℕ) (i : ℕ) (d : S × D) → position (λ (file : S × D). spells bytes name file.0) files ≡ Some i → file_in bytes files name ≡ stored (get_or files i d).1
    found_file files name i d found = let first = position-Some _ files i d found in first_file files name i d first.0 first.1 first.2

    other_files : (files : List (S × D)) (other : List ℕ) (i : ℕ) (d : S × D) → i < length files → spells bytes other (get_or files i d).0 ≡ false
        → file_in bytes (remove files i) other ≡ file_in bytes files other
    other_files [] other i d within apart = absurd (omega arith)
    other_files (file ∷ files) other zero d within apart = rw apart refl
    other_files (file ∷ files) other (suc i) d within apart = ap (λ (place : Place D). cond (bytes_eq (bytes file.0) other) (stored file.1) place) (other_files files other i d (omega arith) apart)

    -- a file that is taken away is none of another name
    pub without_file : (files : List (S × D)) (name : List ℕ) (i : ℕ) (d : S × D) → position (λ (file : S × D). spells bytes name file.0) files ≡ Some i
        → (other : List ℕ) → bytes_eq name other ≡ false → file_in bytes (remove files i) other ≡ file_in bytes files other
    without_file files name i d found other apart =
        let first = position-Some _ files i d found in other_files files other i d first.0 (spells_other (get_or files i d).0 name other first.1 apart)

    file_not_out : (files : List (S × D)) (name : List ℕ) → file_in bytes files name ≡ out → ⊥
    file_not_out [] name e = cc
    file_not_out (file ∷ files) name e = chosen_out (bytes_eq (bytes file.0) name) file.1 (file_in bytes files name) (file_not_out files name) e

    pub nothing_out : (files : List (S × D)) (name : List ℕ) → file_in bytes files name ≢ out
    nothing_out files name = file_not_out files name

    past_slots : (slots : List (S × Option D)) (given : List (S × D)) (name : List ℕ) → list_any (λ (slot : S × Option D). spells bytes name slot.0) slots ≡ false
        → place_in bytes slots given name ≡ file_in bytes given name
    past_slots [] given name none = refl
    past_slots (slot ∷ slots) given name none =
        let fails = neither (spells bytes name slot.0) (list_any (λ (s : S × Option D). spells bytes name s.0) slots) none in rw (fails.0) (past_slots slots given name fails.1)

    pub no_slot : (slots : List (S × Option D)) (given : List (S × D)) (name : List ℕ) → position (λ (slot : S × Option D). spells bytes name slot.0) slots ≡ None
        → place_in bytes slots given name ≡ file_in bytes given name
    no_slot slots given name none = past_slots slots given name (list_any-from_none _ slots none)

    first_slot : (slots : List (S × Option D)) (given : List (S × D)) (name : List ℕ) (i : ℕ) (d : S × Option D) → i < length slots → spells bytes name (get_or slots i d).0 ≡ true
        → ((k : ℕ) → k < i → spells bytes name (get_or slots k d).0 ≡ false) → place_in bytes slots given name ≡ held (get_or slots i d).1
    first_slot [] given name i d within is before = absurd (omega arith)
    first_slot (slot ∷ slots) given name zero d within is before = rw is refl
    first_slot (slot ∷ slots) given name (suc i) d within is before =
        rw (before 0 (omega arith)) (first_slot slots given name i d (omega arith) is (λ k less. before (suc k) (omega arith)))

    pub found_slot : (slots : List (S × Option D)) (given : List (S × D)) (name : List ℕ) (i : ℕ) (d : S × Option D) → position (λ (slot : S × Option D). spells bytes name slot.0) slots ≡ Some i
        → place_in bytes slots given name ≡ held (get_or slots i d).1
    found_slot slots given name i d found = let first = position-Some _ slots i d found in first_slot slots given name i d first.0 first.1 first.2

    pub missing_no_slot : (slots : List (S × Option D)) (given : List (S × D)) (name : List ℕ) → place_in bytes slots given name ≡ missing → list_any (λ (slot : S × Option D). spells bytes name slot.0) slots ≡ false
    missing_no_slot [] given name is = refl
    missing_no_slot (slot ∷ slots) given name is = missed (spells bytes name slot.0) _ slot.1 (place_in bytes slots given name) (missing_no_slot slots given name) is

    -- a name has a file just where it has a slot or a file that was given
    pub has_slot : (slots : List (S × Option D)) (given : List (S × D)) (name : List ℕ) (found : Option ℕ) (has : Bool) → has ≡ is_some found → has ≡ true
        → found ≡ position (λ (slot : S × Option D). spells bytes name slot.0) slots
        → (has ≡ false → place_in bytes slots given name ≡ missing) × (place_in bytes slots given name ≡ missing → has ≡ false)
    has_slot slots given name None has is is_true at = absurd cc
    has_slot [] given name (Some i) has is is_true at = absurd cc
    has_slot (slot ∷ slots) given name (Some i) has is is_true at = (
      (λ not. absurd cc),
      (λ e. absurd (held_there (get_or (slot ∷ slots) i slot).1 (sym (found_slot (slot ∷ slots) given name i slot (sym at)) ∙ e))),
    )

    pub has_file : (slots : List (S × Option D)) (given : List (S × D)) (name : List ℕ) (in_slots found : Option ℕ) (slotted has : Bool) → slotted ≡ is_some in_slots → slotted ≡ false
        → in_slots ≡ position (λ (slot : S × Option D). spells bytes name slot.0) slots → has ≡ is_some found → found ≡ position (λ (file : S × D). spells bytes name file.0) given
        → (has ≡ false → place_in bytes slots given name ≡ missing) × (place_in bytes slots given name ≡ missing → has ≡ false)
    has_file slots given name (Some i) found slotted has is is_false in_slots has_is at = absurd cc
    has_file slots given name None None slotted has is is_false in_slots has_is at = ((λ _. no_slot slots given name (sym in_slots) ∙ no_file given name (sym at)), (λ _. has_is))
    has_file slots [] name None (Some i) slotted has is is_false in_slots has_is at = absurd cc
    has_file slots (file ∷ given) name None (Some i) slotted has is is_false in_slots has_is at = (
      (λ none. absurd cc),
      (λ e. absurd (stored_not_missing _ _ (no_slot slots (file ∷ given) name (sym in_slots) ∙ found_file (file ∷ given) name i file (sym at)) e)),
    )

    set_first : (slots : List (S × Option D)) (given : List (S × D)) (name other : List ℕ) (i : ℕ) (d : S × Option D) (new : Option D) → i < length slots → spells bytes name (get_or slots i d).0 ≡ true
        → ((k : ℕ) → k < i → spells bytes name (get_or slots k d).0 ≡ false)
        → place_in bytes (set slots i ((get_or slots i d).0, new)) given other ≡ cond (bytes_eq name other) (held new) (place_in bytes slots given other)
    set_first [] given name other i d new within is before = absurd (omega arith)
    set_first (slot ∷ slots) given name other zero d new within is before =
        rw ((bytes_eq-Decides (bytes slot.0) name).0 is) (twice (bytes_eq name other) (held new) (held slot.1) (place_in bytes slots given other))
    set_first (slot ∷ slots) given name other (suc i) d new within is before =
        ap (λ (place : Place D). cond (bytes_eq (bytes slot.0) other) (held slot.1) place) (set_first slots given name other i d new (omega arith) is (λ k less. before (suc k) (omega arith)))
        ∙ past (bytes_eq (bytes slot.0) other) (bytes_eq name other) (held slot.1) (held new) (place_in bytes slots given other) (spells_neither slot.0 name other (before 0 (omega arith)))

    -- a slot holds another file, or none
    pub slot_set : (slots : List (S × Option D)) (given : List (S × D)) (name : List ℕ) (i : ℕ) (d : S × Option D) (new : Option D) → position (λ (slot : S × Option D). spells bytes name slot.0) slots ≡ Some i
        → place_in bytes (set slots i ((get_or slots i d).0, new)) given ≡ with_place (place_in bytes slots given) name (held new)
    slot_set slots given name i d new found = let first = position-Some _ slots i d found in fun_ext (λ other. set_first slots given name other i d new first.0 first.1 first.2)

    pub slot_out : (slots : List (S × Option D)) (given : List (S × D)) (name : List ℕ) (i : ℕ) (d : S × Option D) (taken new : Option D) → new ≡ None
        → position (λ (slot : S × Option D). spells bytes name slot.0) slots ≡ Some i → d ≡ get_or slots i d
        → IfSome taken (λ file. place_in bytes (set slots i (d.0, new)) given ≡ with_place (place_in bytes slots given) name out)
    slot_out slots given name i d None new empty found is = tt
    slot_out slots given name i d (Some file) new empty found is =
        ap (λ (slot : S × Option D). place_in bytes (set slots i (slot.0, new)) given) is
        ∙ ap (λ (h : Option D). place_in bytes (set slots i ((get_or slots i d).0, h)) given) empty
        ∙ slot_set slots given name i d None found

    pushed : (slots : List (S × Option D)) (given after : List (S × D)) (name other : List ℕ) (text : S) → bytes text ≡ name → list_any (λ (slot : S × Option D). spells bytes name slot.0) slots ≡ false
        → (bytes_eq name other ≡ false → file_in bytes after other ≡ file_in bytes given other)
        → place_in bytes (slots ++ (text, None) ∷ []) after other ≡ cond (bytes_eq name other) out (place_in bytes slots given other)
    pushed [] given after name other text is none same = rw is (elsewhere (bytes_eq name other) out (file_in bytes given other) (file_in bytes after other) same)
    pushed (slot ∷ slots) given after name other text is none same =
        let fails = neither (spells bytes name slot.0) (list_any (λ (s : S × Option D). spells bytes name s.0) slots) none in
        ap (λ (place : Place D). cond (bytes_eq (bytes slot.0) other) (held slot.1) place) (pushed slots given after name other text is fails.1 same)
        ∙ past (bytes_eq (bytes slot.0) other) (bytes_eq name other) (held slot.1) out (place_in bytes slots given other) (spells_neither slot.0 name other fails.0)

    -- a name has a slot now, and its file is out
    pub slot_pushed : (slots new : List (S × Option D)) (given after : List (S × D)) (name : List ℕ) (text : S) → new ≡ slots ++ (text, None) ∷ [] → bytes text ≡ name
        → list_any (λ (slot : S × Option D). spells bytes name slot.0) slots ≡ false
        → ((other : List ℕ) → bytes_eq name other ≡ false → file_in bytes after other ≡ file_in bytes given other)
        → place_in bytes new after ≡ with_place (place_in bytes slots given) name out
    slot_pushed slots new given after name text grown is none same = fun_ext (λ other. rw grown (pushed slots given after name other text is none (same other)))
