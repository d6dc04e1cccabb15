-- Reading the elements of a list one after the other, as a loop does.
use Rattle.std.proofs.Common.{◌≡◌, ℕ, ◌+◌, ◌<◌, ◌≤◌, List, [], ◌∷◌, ◌++◌, length, get_or, drop, map, Result, Ok, Err, refl, sym, ap, ◌∙◌, append_assoc, add-one, arith}
use Rattle.std.proofs.lemmas.List.{append-nil}
use Rattle.std.proofs.Math.Seq.{drop-cons}
use Rattle.std.proofs.lemmas.Grind.{common_steps}
use Rattle.serde_json.specs.Data.{Data}
use Rattle.serde_json.specs.View.{view, items_of}
use Rattle.serde_json.specs.declared.value.Value.{Value}
use Rattle.json_fold.specs.declared.fault.FieldError.{FieldError}
use Rattle.json_fold.specs.declared.fault.FieldError.TheVariants.{Bad, Memory}
use Rattle.json_fold.specs.Fault.{Fault, ◌>>=◌, Refuses, item_path}
use Rattle.json_fold.specs.declared.fault.FieldCause.TheVariants.{BadLength}
use Rattle.json_fold.specs.Reading.{each, four_of}

-- what was read before, and what is still read
abbrev pub with_front : {A : Type 0} → List A → Result (List A) Fault → Result (List A) Fault
with_front front read = read >>= λ xs. Ok (front ++ xs)

-- the elements from k on
abbrev pub each_from : {A : Type 0} → (Data → List ℕ → Result A Fault) → List Value → ℕ → List ℕ → Result (List A) Fault
each_from read vs k path = each read (items_of (map view (drop k vs))) k path

first_of : {A : Type 0} (read : Data → List ℕ → Result A Fault) (vs : List Value) (k : ℕ) (v : Value) (path : List ℕ) → k < length vs → v ≡ get_or vs k v
    → each_from read vs k path ≡ (read (view v) (item_path path k) >>= λ x. each_from read vs (k + 1) path >>= λ xs. Ok (x ∷ xs))
first_of read vs k v path within found =
    let split : drop k vs ≡ v ∷ drop (k + 1) vs = drop-cons vs k v within ∙ rw (← found, add-one) refl in
    rw split refl

regroup : {A : Type 0} (front : List A) (x : A) (read : Result (List A) Fault) → with_front front (read >>= λ xs. Ok (x ∷ xs)) ≡ with_front (front ++ x ∷ []) read
regroup front x (Ok xs) = ap Ok (sym (append_assoc front (x ∷ []) xs))
regroup front x (Err f) = refl

pub goes_on : {A : Type 0} (read : Data → List ℕ → Result A Fault) (vs : List Value) (k : ℕ) (v : Value) (path : List ℕ) (front : List A) (x : A) (total : Result (List A) Fault) → k < length vs → v ≡ get_or vs k v
    → read (view v) (item_path path k) ≡ Ok x → with_front front (each_from read vs k path) ≡ total → with_front (front ++ x ∷ []) (each_from read vs (k + 1) path) ≡ total
goes_on read vs k v path front x total within found here so_far =
    let e : each_from read vs k path ≡ (each_from read vs (k + 1) path >>= λ xs. Ok (x ∷ xs)) = first_of read vs k v path within found ∙ rw here refl in
    sym (regroup front x (each_from read vs (k + 1) path)) ∙ ap (with_front front) (sym e) ∙ so_far

pub ends : {A : Type 0} (e : FieldError) (read : Data → List ℕ → Result A Fault) (vs : List Value) (k : ℕ) (v : Value) (path : List ℕ) (front : List A) (total : Result (List A) Fault) → k < length vs → v ≡ get_or vs k v
    → Refuses e (read (view v) (item_path path k)) → with_front front (each_from read vs k path) ≡ total → Refuses e total
ends Memory read vs k v path front total within found here so_far = tt
ends (Bad p cause) read vs k v path front total within found here so_far =
    let e : each_from read vs k path ≡ Err (p, cause) = first_of read vs k v path within found ∙ rw here refl in
    sym so_far ∙ ap (with_front front) e

drop_past : (vs : List Value) (k : ℕ) → length vs ≤ k → drop k vs ≡ []
drop_past vs k past = grind (arith, common_steps)

pub is_done : {A : Type 0} (read : Data → List ℕ → Result A Fault) (vs : List Value) (k : ℕ) (path : List ℕ) (front : List A) (total : Result (List A) Fault) → length vs ≤ k → with_front front (each_from read vs k path) ≡ total → total ≡ Ok front
is_done read vs k path front total past so_far =
    let e : each_from read vs k path ≡ Ok [] = rw (drop_past vs k past) refl in
    sym so_far ∙ ap (with_front front) e ∙ ap Ok (append-nil front)

-- a list of another length
pub four_of_other : (vs : List Value) (path : List ℕ) → (length vs ≡ 4 → ⊥) → four_of (items_of (map view vs)) path ≡ Err (path, BadLength)
four_of_other [] path other = refl
four_of_other (a ∷ []) path other = refl
four_of_other (a ∷ b ∷ []) path other = refl
four_of_other (a ∷ b ∷ c ∷ []) path other = refl
four_of_other (a ∷ b ∷ c ∷ d ∷ []) path other = absurd (other refl)
four_of_other (a ∷ b ∷ c ∷ d ∷ e ∷ more) path other = refl
