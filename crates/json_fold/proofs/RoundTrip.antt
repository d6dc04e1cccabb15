-- What is written is read again.
use Rattle.std.proofs.Common.{◌≡◌, ℕ, suc, Ordering, Less, Equal, Greater, is_eq, ◌+◌, ◌<◌, ◌^◌, List, [], ◌∷◌, map, Bool, true, false, not, ◌&&◌, Option, Some, None, Result, Ok, refl, sym, ap, ◌∙◌, subst, arith}
use Rattle.std.specs.Prelude.{All, IfSome, option_map, codes, ⊤}
use Rattle.std.specs.List.{AllByRecursion}
use Rattle.std.specs.Ordering.{nat_cmp, match_ordering, ordering_reverse}
use Rattle.std.specs.Cmp.Lexicographic.{slice_cmp}
use Rattle.std.proofs.lemmas.Bool.{lt-ltb}
use Rattle.std.proofs.lemmas.Map.Text.{is_eq-slice_cmp}
use Rattle.std.proofs.lemmas.Slice.Eq.{bytes_eq-Decides}
use Rattle.std.proofs.lemmas.Cmp.{nat_list_cmp_total, tied_itself}
use Rattle.foz_words.specs.declared.unit.Unit.{Unit}
use Rattle.foz_words.specs.declared.unit.Unit.TheVariants.{Zero, One}
use Rattle.foz_words.specs.Unit as units
use Rattle.foz_words.specs.Hex.{hex_text}
use Rattle.foz_words.proofs.HexText.{hex16_value-hex_text}
use Rattle.base64.specs.Engines.{standard}
use Rattle.base64.specs.GeneralPurpose.{encode_of, decoded_of, IsBytes}
use Rattle.base64.proofs.EngineFacts.{decode_of-encode_of}
use Rattle.serde_json.specs.Data as json
use Rattle.serde_json.specs.Data.{Data, Members, no_members, member, put}
use Rattle.serde_json.specs.Find.{get_member}
use Rattle.serde_json.specs.View.{items_of}
use Rattle.vk_form.specs.Shape.{Shape, number, unit, hash, text, bytes, four_units, list, struct, Fields, end, field, optional, Plain, Plains}
use Rattle.json_fold.specs.Fault.{Fault, ◌>>=◌, at, member_path, item_path}
use Rattle.json_fold.specs.Leaf.{number_of, unit_of, hash_of, bytes_of}
use Rattle.json_fold.specs.Reading.{reading, fields_reading, opened, each, missing, or_missing, if_there}
use Rattle.json_fold.specs.Written.{whole, written, with_member, with_optional, members_with, IsInRange, AreInRange}
use Rattle.json_fold.specs.Law.{WrittenIsRead}
use Rattle.json_fold.specs.Sound.{is_new, is_sound, are_sound}

-- ---- the leaves

number_again : (n : ℕ) → n < 2 ^ 32 → number_of (whole n) ≡ Ok n
unfolding number_of
number_again n fits = rw (lt-ltb n (2 ^ 32) fits) refl

unit_again : (u : Unit) → unit_of (whole (units.number_of u)) ≡ Ok u
unfolding unit_of
unit_again Zero = refl
unit_again One = refl

hash_again : (h : ℕ) → h < 2 ^ 64 → hash_of (json.string (hex_text 16 h)) ≡ Ok h
unfolding hash_of
hash_again h fits = rw (hex16_value-hex_text h fits) refl

bytes_again : (b : List ℕ) → IsBytes b → bytes_of (json.string (encode_of standard b)) ≡ Ok b
unfolding bytes_of decoded_of
bytes_again b all = rw (decode_of-encode_of standard b refl all) refl

-- ---- members

same_text : (k : List ℕ) → slice_cmp nat_cmp k k ≡ Equal
same_text k = tied_itself nat_list_cmp_total k

equal_names : (k m : List ℕ) → slice_cmp nat_cmp k m ≡ Equal → k ≡ m
equal_names k m e = (bytes_eq-Decides k m).0 (sym (is_eq-slice_cmp k m) ∙ ap is_eq e)

pick : {A : Type 0} (o : Ordering) (a b : A) → is_eq o ≡ false → match_ordering o a b a ≡ a
pick Less a b e = refl
pick Equal a b e = absurd cc
pick Greater a b e = refl

module _ (k : List ℕ) (d : Data) (m : List ℕ) (e : Data) (ms : Members) (others : get_member k (put k d ms) ≡ Some d) where
  same_case : (o : Ordering) → slice_cmp nat_cmp k m ≡ o → get_member k (match_ordering o (member k d (member m e ms)) (member m d ms) (member m e (put k d ms))) ≡ Some d
  same_case Less is = rw (same_text k) refl
  same_case Equal is = rw is refl
  same_case Greater is = rw is others

get_put_same : (k : List ℕ) (d : Data) (ms : Members) → get_member k (put k d ms) ≡ Some d
get_put_same k d no_members = rw (same_text k) refl
get_put_same k d (member m e ms) = same_case k d m e ms (get_put_same k d ms) (slice_cmp nat_cmp k m) refl

module _ (k l : List ℕ) (d : Data) (m : List ℕ) (e : Data) (ms : Members) (ne : is_eq (slice_cmp nat_cmp k l) ≡ false) (others : get_member k (put l d ms) ≡ get_member k ms) where
  other_case : (o : Ordering) → slice_cmp nat_cmp l m ≡ o → get_member k (match_ordering o (member l d (member m e ms)) (member m d ms) (member m e (put l d ms))) ≡ get_member k (member m e ms)
  other_case Less is = pick (slice_cmp nat_cmp k l) (get_member k (member m e ms)) (Some d) ne
  other_case Equal is =
      let apart : is_eq (slice_cmp nat_cmp k m) ≡ false = subst (λ (n : List ℕ). is_eq (slice_cmp nat_cmp k n) ≡ false) (equal_names l m is) ne in
      pick (slice_cmp nat_cmp k m) (get_member k ms) (Some d) apart ∙ sym (pick (slice_cmp nat_cmp k m) (get_member k ms) (Some e) apart)
  other_case Greater is = ap (λ (r : Option Data). match_ordering (slice_cmp nat_cmp k m) r (Some e) r) others

get_put_other : (k l : List ℕ) (d : Data) (ms : Members) → is_eq (slice_cmp nat_cmp k l) ≡ false → get_member k (put l d ms) ≡ get_member k ms
get_put_other k l d no_members ne = pick (slice_cmp nat_cmp k l) None (Some d) ne
get_put_other k l d (member m e ms) ne = other_case k l d m e ms ne (get_put_other k l d ms ne) (slice_cmp nat_cmp l m) refl

both_true : (a b : Bool) → (a && b) ≡ true → (a ≡ true) × (b ≡ true)
both_true true b e = (refl, e)
both_true false b e = absurd cc

not_true : (b : Bool) → not b ≡ true → b ≡ false
not_true true e = absurd cc
not_true false e = refl

reversed : (o : Ordering) → is_eq (ordering_reverse o) ≡ is_eq o
reversed Less = refl
reversed Equal = refl
reversed Greater = refl

other_way : (a b : List ℕ) → is_eq (slice_cmp nat_cmp a b) ≡ false → is_eq (slice_cmp nat_cmp b a) ≡ false
other_way a b ne = ap is_eq (nat_list_cmp_total.antisymm b a) ∙ reversed (slice_cmp nat_cmp a b) ∙ ne

other_optional : {A : Type 0} (n m : List ℕ) (w : A → Data) (x : Option A) (ms : Members) → is_eq (slice_cmp nat_cmp n m) ≡ false → get_member n (with_optional m w x ms) ≡ get_member n ms
unfolding with_optional with_member
other_optional n m w None ms ne = refl
other_optional n m w (Some x) ms ne = get_put_other n m (w x) ms ne

other_member : (n m : List ℕ) (d : Data) (ms : Members) → is_eq (slice_cmp nat_cmp n m) ≡ false → get_member n (with_member m d ms) ≡ get_member n ms
unfolding with_member
other_member n m d ms ne = get_put_other n m d ms ne

same_member : (n : List ℕ) (d : Data) (ms : Members) → get_member n (with_member n d ms) ≡ Some d
unfolding with_member
same_member n d ms = get_put_same n d ms

same_optional : {A : Type 0} (n : List ℕ) (w : A → Data) (x : Option A) (ms : Members) → get_member n ms ≡ None → get_member n (with_optional n w x ms) ≡ option_map w x
unfolding with_optional with_member
same_optional n w None ms lacks = lacks
same_optional n w (Some x) ms lacks = get_put_same n (w x) ms

-- a name that no field has is left alone
keeps : (fs : Fields) (xs : Plains fs) (ms : Members) (n : List ℕ) → is_new n fs ≡ true → get_member n (members_with fs xs ms) ≡ get_member n ms
keeps end xs ms n new = refl
keeps (field m s fs) xs ms n new =
    let p = both_true _ _ new in
    keeps fs xs.1 (with_member m (written s xs.0) ms) n p.1 ∙ other_member n m (written s xs.0) ms (not_true _ p.0)
keeps (optional m o fs) xs ms n new =
    let p = both_true _ _ new in
    keeps fs xs.1 (with_optional m (λ x. json.object (members_with o x no_members)) xs.0 ms) n p.1 ∙ other_optional n m (λ x. json.object (members_with o x no_members)) xs.0 ms (not_true _ p.0)

abbrev Lacks : Fields → Members → Type 0
Lacks end ms = Prim.Unit {0}
Lacks (field n s fs) ms = (get_member n ms ≡ None) × Lacks fs ms
Lacks (optional n o fs) ms = (get_member n ms ≡ None) × Lacks fs ms

lacks_all : (fs : Fields) → Lacks fs no_members
lacks_all end = tt
lacks_all (field n s fs) = (refl, lacks_all fs)
lacks_all (optional n o fs) = (refl, lacks_all fs)

lacks_still : (fs : Fields) (m : List ℕ) (old new : Members) → is_new m fs ≡ true → ((n : List ℕ) → is_eq (slice_cmp nat_cmp n m) ≡ false → get_member n new ≡ get_member n old) → Lacks fs old → Lacks fs new
lacks_still end m old new fresh same lacks = tt
lacks_still (field n s fs) m old new fresh same lacks =
    let p = both_true _ _ fresh in
    (same n (other_way m n (not_true _ p.0)) ∙ lacks.0, lacks_still fs m old new p.1 same lacks.1)
lacks_still (optional n o fs) m old new fresh same lacks =
    let p = both_true _ _ fresh in
    (same n (other_way m n (not_true _ p.0)) ∙ lacks.0, lacks_still fs m old new p.1 same lacks.1)

-- ---- readings

abbrev both : {A B : Type 0} → Result A Fault → Result B Fault → Result (A × B) Fault
both r more = r >>= λ a. more >>= λ b. Ok (a, b)

paired : {A B : Type 0} (r : Result A Fault) (more : Result B Fault) (x : A) (xs : B) → r ≡ Ok x → more ≡ Ok xs → both r more ≡ Ok (x, xs)
paired r more x xs first later = rw (first, later) refl

each_value : {A : Type 0} (P : A → Type 0) (xs : List A) → All P xs → AllByRecursion P xs
each_value P [] all = tt
each_value P (x ∷ xs) all = (all 0 x (omega arith), each_value P xs (λ k d within. all (suc k) d (omega arith)))

each_again : {A : Type 0} (P : A → Type 0) (read : Data → List ℕ → Result A Fault) (w : A → Data) → ((x : A) (p : List ℕ) → P x → read (w x) p ≡ Ok x) → (xs : List A) (k : ℕ) (path : List ℕ) → AllByRecursion P xs → each read (items_of (map w xs)) k path ≡ Ok xs
each_again P read w again [] k path all = refl
each_again P read w again (x ∷ xs) k path all = rw (again x (item_path path k) all.0, each_again P read w again xs (k + 1) path all.1) refl

four_again : (a b c d : Unit) (path : List ℕ) → reading four_units (written four_units (a, (b, (c, d)))) path ≡ Ok (a, (b, (c, d)))
four_again a b c d path = rw (unit_again a, unit_again b, unit_again c, unit_again d) refl

if_there_again : {A : Type 0} (P : A → Type 0) (read : Data → List ℕ → Result A Fault) (w : A → Data) → ((x : A) (p : List ℕ) → P x → read (w x) p ≡ Ok x) → (o : Option A) (path : List ℕ) → IfSome o P → if_there read (option_map w o) path ≡ Ok o
if_there_again P read w again None path all = refl
if_there_again P read w again (Some x) path all = rw (again x path all) refl

opened_again : (ms : Members) (path : List ℕ) → get_member (codes "pNext") ms ≡ None → opened (json.object ms) path ≡ Ok tt
unfolding opened
opened_again ms path lacks = rw lacks refl

behind : {A : Type 0} (o : Result ⊤ Fault) (r : Result A Fault) (x : A) → o ≡ Ok tt → r ≡ Ok x → (o >>= λ _. r) ≡ Ok x
behind o r x first later = rw first later

mutual
  again : (s : Shape) (x : Plain s) (path : List ℕ) → is_sound s ≡ true → IsInRange s x → reading s (written s x) path ≡ Ok x
  again number x path sound range = ap (at path) (number_again x range)
  again unit x path sound range = ap (at path) (unit_again x)
  again hash x path sound range = ap (at path) (hash_again x range)
  again text x path sound range = refl
  again bytes x path sound range = ap (at path) (bytes_again x range)
  again four_units x path sound range = four_again x.0 x.1.0 x.1.1.0 x.1.1.1 path
  again (list s) x path sound range = each_again (IsInRange s) (reading s) (written s) (λ y p h. again s y p sound h) x 0 path (each_value (IsInRange s) x range)
  again (struct fs) x path sound range =
      let p = both_true _ _ sound in
      behind (opened (json.object (members_with fs x no_members)) path) (fields_reading fs (json.object (members_with fs x no_members)) path) x
      (opened_again (members_with fs x no_members) path (keeps fs x no_members (codes "pNext") p.0))
      (fields_again fs x no_members path p.1 range (lacks_all fs))

  fields_again : (fs : Fields) (xs : Plains fs) (ms : Members) (path : List ℕ) → are_sound fs ≡ true → AreInRange fs xs → Lacks fs ms → fields_reading fs (json.object (members_with fs xs ms)) path ≡ Ok xs
  fields_again end xs ms path sound range lacks = refl
  fields_again (field n s fs) xs ms path sound range lacks =
      let p = both_true _ _ sound in
      let q = both_true _ _ p.0 in
      let found = keeps fs xs.1 (with_member n (written s xs.0) ms) n q.0 ∙ same_member n (written s xs.0) ms in
      paired _ _ xs.0 xs.1
      (ap (λ (o : Option Data). or_missing (missing s) (reading s) o (member_path path n)) found ∙ again s xs.0 (member_path path n) q.1 range.0)
      (fields_again fs xs.1 (with_member n (written s xs.0) ms) path p.1 range.1 (lacks_still fs n ms (with_member n (written s xs.0) ms) q.0 (λ m ne. other_member m n (written s xs.0) ms ne) lacks.1))
  fields_again (optional n o fs) xs ms path sound range lacks =
      let w : Plains o → Data = λ x. json.object (members_with o x no_members) in
      let p = both_true _ _ sound in
      let q = both_true _ _ p.0 in
      let r = both_true _ _ q.0 in
      let found = keeps fs xs.1 (with_optional n w xs.0 ms) n r.0 ∙ same_optional n w xs.0 ms lacks.0 in
      let inner = λ (x : Plains o) (at_path : List ℕ) (h : AreInRange o x). behind (opened (w x) at_path) (fields_reading o (w x) at_path) x (opened_again (members_with o x no_members) at_path (keeps o x no_members (codes "pNext") r.1)) (fields_again o x no_members at_path q.1 h (lacks_all o)) in
      paired _ _ xs.0 xs.1
      (ap (λ (v : Option Data). if_there (λ e p. opened e p >>= λ _. fields_reading o e p) v (member_path path n)) found ∙ if_there_again (AreInRange o) (λ e p. opened e p >>= λ _. fields_reading o e p) w inner xs.0 (member_path path n) range.0)
      (fields_again fs xs.1 (with_optional n w xs.0 ms) path p.1 range.1 (lacks_still fs n ms (with_optional n w xs.0 ms) r.0 (λ m ne. other_optional m n w xs.0 ms ne) lacks.1))

pub written_is_read : WrittenIsRead
written_is_read fs x path sound range = again (struct fs) x path sound range

-- the same, of members that were put into none
pub read_of : (fs : Fields) (x : Plains fs) (start stand : Members) (d : Data) (path : List ℕ) → is_sound (struct fs) ≡ true → AreInRange fs x → start ≡ no_members → stand ≡ members_with fs x start → d ≡ json.object stand → reading (struct fs) d path ≡ Ok x
read_of fs x start stand d path sound range none put is =
    ap (λ (e : Data). reading (struct fs) e path) (is ∙ ap json.object (put ∙ ap (members_with fs x) none)) ∙ written_is_read fs x path sound range
