-- How deep the JSON of a structure nests: no deeper than its table.
use Rattle.std.proofs.Common.{ℕ, suc, ◌≤◌, max, List, [], ◌∷◌, map, Option, Some, None, Ordering, Less, Equal, Greater, arith}
use Rattle.std.specs.Ordering.{nat_cmp, match_ordering}
use Rattle.std.specs.Cmp.Lexicographic.{slice_cmp}
use Rattle.serde_json.specs.Data as json
use Rattle.serde_json.specs.Data.{Data, Items, no_items, item, Members, no_members, member, put, depth, items_depth, members_depth}
use Rattle.serde_json.specs.View.{items_of}
use Rattle.vk_form.specs.Shape.{Shape, number, unit, hash, text, bytes, four_units, list, struct, Fields, end, field, optional, Plain, Plains}
use Rattle.json_fold.specs.Written.{written, with_member, with_optional, members_with}

-- how deep the values of a shape nest at most
abbrev mutual
  pub shape_depth : Shape → ℕ
  shape_depth number = 0
  shape_depth unit = 0
  shape_depth hash = 0
  shape_depth text = 0
  shape_depth bytes = 0
  shape_depth four_units = 1
  shape_depth (list s) = suc (shape_depth s)
  shape_depth (struct fs) = suc (fields_depth fs)

  pub fields_depth : Fields → ℕ
  fields_depth end = 0
  fields_depth (field name s fs) = max (shape_depth s) (fields_depth fs)
  fields_depth (optional name o fs) = max (suc (fields_depth o)) (fields_depth fs)

one_of : (o : Ordering) (a b c : Members) (n : ℕ) → members_depth a ≤ n → members_depth b ≤ n → members_depth c ≤ n → members_depth (match_ordering o a b c) ≤ n
one_of Less a b c n p q r = p
one_of Equal a b c n p q r = q
one_of Greater a b c n p q r = r

put_within : (k : List ℕ) (d : Data) (ms : Members) (n : ℕ) → depth d ≤ n → members_depth ms ≤ n → members_depth (put k d ms) ≤ n
put_within k d no_members n p q = omega arith
put_within k d (member l e ms) n p q =
    one_of (slice_cmp nat_cmp k l) (member k d (member l e ms)) (member l d ms) (member l e (put k d ms)) n (omega arith) (omega arith) (omega (arith, put_within k d ms n p (omega arith)))

pub member_within : (k : List ℕ) (d : Data) (ms : Members) (n : ℕ) → depth d ≤ n → members_depth ms ≤ n → members_depth (with_member k d ms) ≤ n
unfolding with_member
member_within k d ms n p q = put_within k d ms n p q

optional_within : {A : Type 0} (k : List ℕ) (write : A → Data) (o : Option A) (ms : Members) (n : ℕ) → ((x : A) → depth (write x) ≤ n) → members_depth ms ≤ n → members_depth (with_optional k write o ms) ≤ n
unfolding with_optional
optional_within k write None ms n p q = q
optional_within k write (Some x) ms n p q = member_within k (write x) ms n (p x) q

items_within : {A : Type 0} (write : A → Data) (xs : List A) (n : ℕ) → ((x : A) → depth (write x) ≤ n) → items_depth (items_of (map write xs)) ≤ n
items_within write [] n p = omega arith
items_within write (x ∷ xs) n p = omega (arith, p x, items_within write xs n p)

mutual
  written_within : (s : Shape) (x : Plain s) → depth (written s x) ≤ shape_depth s
  written_within number x = omega arith
  written_within unit x = omega arith
  written_within hash x = omega arith
  written_within text x = omega arith
  written_within bytes x = omega arith
  written_within four_units x = omega arith
  written_within (list s) x = omega (arith, items_within (written s) x (shape_depth s) (written_within s))
  written_within (struct fs) x = omega (arith, members_within fs x no_members (fields_depth fs) (omega arith) (omega arith))

  members_within : (fs : Fields) (xs : Plains fs) (ms : Members) (n : ℕ) → fields_depth fs ≤ n → members_depth ms ≤ n → members_depth (members_with fs xs ms) ≤ n
  members_within end xs ms n p q = q
  members_within (field name s fs) xs ms n p q =
      let first = written_within s xs.0 in
      members_within fs xs.1 (with_member name (written s xs.0) ms) n (omega arith) (member_within name (written s xs.0) ms n (omega arith) q)
  members_within (optional name o fs) xs ms n p q =
      let w : Plains o → Data = λ x. json.object (members_with o x no_members) in
      let first : (x : Plains o) → depth (w x) ≤ n = λ x. omega (arith, members_within o x no_members (fields_depth o) (omega arith) (omega arith)) in
      members_within fs xs.1 (with_optional name w xs.0 ms) n (omega arith) (optional_within name w xs.0 ms n first q)

pub structure_within : (fs : Fields) (x : Plains fs) → depth (written (struct fs) x) ≤ suc (fields_depth fs)
structure_within fs x = written_within (struct fs) x

pub is_within : (fs : Fields) (x : Plains fs) (n : ℕ) → shape_depth (struct fs) ≤ n → depth (written (struct fs) x) ≤ n
is_within fs x n all = omega (arith, structure_within fs x)
