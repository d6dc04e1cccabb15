-- Fields that were read one after the other were read as the fields of the object.
use Rattle.std.proofs.Common.{◌≡◌, ℕ, List, Option, Some, None, Result, Ok, refl, sym, ◌∙◌, subst}
use Rattle.std.specs.Prelude.{IsSome}
use Rattle.serde_json.specs.Data as json
use Rattle.serde_json.specs.Data.{Data, no_members}
use Rattle.vk_form.specs.Shape.{struct, Fields, end, field, optional, Plains}
use Rattle.json_fold.specs.declared.fault.FieldError.{FieldError}
use Rattle.json_fold.specs.declared.fault.FieldError.TheVariants.{Bad, Memory}
use Rattle.json_fold.specs.declared.reader.FieldReader.{FieldReader}
use Rattle.json_fold.specs.Fault.{Fault, ◌>>=◌, Refuses}
use Rattle.json_fold.specs.Reading.{opened, reading, fields_reading, all_missing}
use Rattle.json_fold.specs.Steps.{object, path, refused, Goes, Step, member_reading, optional_reading, ReadsFields, done, then_field, then_optional}

abbrev both : {A B : Type 0} → Result A Fault → Result B Fault → Result (A × B) Fault
both read more = read >>= λ x. more >>= λ xs. Ok (x, xs)

refuses_first : {A B : Type 0} (e : FieldError) (read : Result A Fault) (more : Result B Fault) → Refuses e read → Refuses e (both read more)
refuses_first Memory read more h = tt
refuses_first (Bad path cause) read more h = rw h refl

refuses_later : {A B : Type 0} (e : FieldError) (read : Result A Fault) (more : Result B Fault) (x : A) → read ≡ Ok x → Refuses e more → Refuses e (both read more)
refuses_later Memory read more x first h = tt
refuses_later (Bad path cause) read more x first h = rw (first, h) refl

goes_on : {A B : Type 0} (old mid new : Option FieldError) (read : Result A Fault) (x : A) (more : Result B Fault) (xs : B) → Goes old mid read x → Goes mid new more xs → Goes old new (both read more) (x, xs)
goes_on (Some e) mid new read x more xs first later = rest mid first later
  where
    rest : (m : Option FieldError) → m ≡ Some e → Goes m new more xs → new ≡ Some e
    rest None is later = absurd cc
    rest (Some d) is later = later ∙ is
goes_on None (Some e) None read x more xs first later = absurd cc
goes_on None (Some e) (Some d) read x more xs first later =
    let same : e ≡ d = cc in
    subst (λ (f : FieldError). Refuses f (both read more)) same (refuses_first e read more first)
goes_on None None None read x more xs first later = rw (first, later) refl
goes_on None None (Some d) read x more xs first later = refuses_later d read more x first later

stands : {A : Type 0} (o : Option FieldError) (read : Result A Fault) (x : A) → read ≡ Ok x → Goes o o read x
stands None read x h = h
stands (Some e) read x h = refl

joined : {A B : Type 0} (old mid new : FieldReader) (read : Result A Fault) (x : A) (more : Data → List ℕ → Result B Fault) (xs : B) → Step old mid read x → Step mid new (more (object mid) (path mid)) xs → Step old new (both read (more (object old) (path old))) (x, xs)
joined old mid new read x more xs first later =
    let at_old : Goes (refused mid) (refused new) (more (object old) (path old)) xs =
    subst (λ (d : Data). Goes (refused mid) (refused new) (more d (path old)) xs) first.same_object (subst (λ (p : List ℕ). Goes (refused mid) (refused new) (more (object mid) p) xs) first.same_path later.goes) in
    record {
      same_object = later.same_object ∙ first.same_object;
      same_path = later.same_path ∙ first.same_path;
      goes = goes_on (refused old) (refused mid) (refused new) read x (more (object old) (path old)) xs first.goes at_old;
    }

pub reads_fields : {fs : Fields} {old new : FieldReader} {xs : Plains fs} → ReadsFields fs old xs new → Step old new (fields_reading fs (object old) (path old)) xs
reads_fields (done {r}) = record { same_object = refl; same_path = refl; goes = stands (refused r) (Ok tt) tt refl }
reads_fields (then_field {name} {s} {fs} {old} {mid} {new} {x} {xs} step more) =
    joined old mid new (member_reading s name old) x (fields_reading fs) xs step (reads_fields more)
reads_fields (then_optional {name} {o} {fs} {old} {mid} {new} {x} {xs} step more) =
    joined old mid new (optional_reading o name old) x (fields_reading fs) xs step (reads_fields more)

-- an object without members has none to refuse
pub fields_reading_of_nothing : (fs : Fields) (p : List ℕ) → fields_reading fs (json.object no_members) p ≡ Ok (all_missing fs)
fields_reading_of_nothing end p = refl
fields_reading_of_nothing (field name s fs) p = rw (fields_reading_of_nothing fs p) refl
fields_reading_of_nothing (optional name o fs) p = rw (fields_reading_of_nothing fs p) refl

pub reading_of_nothing : (fs : Fields) (p : List ℕ) → reading (struct fs) (json.object no_members) p ≡ Ok (all_missing fs)
unfolding opened
reading_of_nothing fs p = fields_reading_of_nothing fs p

-- the whole object, once it is open
pub finished : {fs : Fields} (d : Data) (p : List ℕ) (old new : FieldReader) (xs : Plains fs) (o : Option FieldError) → opened d p ≡ Ok tt → refused old ≡ None → object old ≡ d → path old ≡ p → ReadsFields fs old xs new → o ≡ refused new → Goes None o (reading (struct fs) d p) xs
finished {fs} d p old new xs o is_open fresh same_object same_path read is =
    let step : Step old new (fields_reading fs (object old) (path old)) xs = reads_fields read in
    let here : Goes None o (fields_reading fs d p) xs =
    subst (λ (q : Option FieldError). Goes None q (fields_reading fs d p) xs) (sym is)
    (subst (λ (q : Option FieldError). Goes q (refused new) (fields_reading fs d p) xs) fresh
    (subst (λ (e : Data). Goes (refused old) (refused new) (fields_reading fs e p) xs) same_object
    (subst (λ (q : List ℕ). Goes (refused old) (refused new) (fields_reading fs (object old) q) xs) same_path step.goes))) in
    rw is_open here

keeps : {A : Type 0} (old new : Option FieldError) (read : Result A Fault) (x : A) → IsSome old → Goes old new read x → new ≡ old
keeps None new read x some goes = absurd cc
keeps (Some e) new read x some goes = goes

-- after a refusal the fields leave the reader as it was
pub stays : {fs : Fields} {old new : FieldReader} {xs : Plains fs} → ReadsFields fs old xs new → IsSome (refused old) → (object new ≡ object old) × (path new ≡ path old) × (refused new ≡ refused old)
stays {fs} {old} {new} {xs} read some =
    let step : Step old new (fields_reading fs (object old) (path old)) xs = reads_fields read in
    (step.same_object, step.same_path, keeps (refused old) (refused new) (fields_reading fs (object old) (path old)) xs some step.goes)
