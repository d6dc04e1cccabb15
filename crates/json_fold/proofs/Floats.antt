-- What is written has no float.
use Rattle.std.proofs.Common.{◌≡◌, ℕ, List, [], ◌∷◌, map, Ordering, Less, Equal, Greater, Bool, true, false, Option, Some, None, refl, ap, ◌∙◌}
use Rattle.std.specs.Prelude.{◌||◌}
use Rattle.std.specs.Ordering.{nat_cmp, match_ordering}
use Rattle.std.specs.Cmp.Lexicographic.{slice_cmp}
use Rattle.serde_json.specs.Data as json
use Rattle.serde_json.specs.Data.{Data, Members, no_members, member, put}
use Rattle.serde_json.specs.View.{items_of}
use Rattle.serde_json.specs.Written.{has_float, items_have_float, members_have_float}
use Rattle.vk_form.specs.Shape.{Shape, number, unit, hash, text, bytes, four_units, list, struct, Fields, end, field, optional, Plain, Plains}
use Rattle.json_fold.specs.Written.{written, with_member, with_optional, members_with}

neither : (a b : Bool) → a ≡ false → b ≡ false → (a || b) ≡ false
neither a b na nb = rw (na, nb) refl

both_false : (a b : Bool) → (a || b) ≡ false → (a ≡ false) × (b ≡ false)
both_false true b e = absurd cc
both_false false b e = (refl, e)

module _ (k : List ℕ) (d : Data) (l : List ℕ) (e : Data) (ms : Members) (new : has_float d ≡ false) (old : (has_float e || members_have_float ms) ≡ false) (rest : members_have_float (put k d ms) ≡ false) where
  put_case : (o : Ordering) → members_have_float (match_ordering o (member k d (member l e ms)) (member l d ms) (member l e (put k d ms))) ≡ false
  put_case Less = neither _ _ new old
  put_case Equal = neither _ _ new (both_false _ _ old).1
  put_case Greater = neither _ _ (both_false _ _ old).0 rest

put_has_none : (k : List ℕ) (d : Data) (ms : Members) → has_float d ≡ false → members_have_float ms ≡ false → members_have_float (put k d ms) ≡ false
put_has_none k d no_members new old = neither _ _ new refl
put_has_none k d (member l e ms) new old = put_case k d l e ms new old (put_has_none k d ms new (both_false _ _ old).1) (slice_cmp nat_cmp k l)

pub with_member_none : (k : List ℕ) (d : Data) (ms : Members) → has_float d ≡ false → members_have_float ms ≡ false → members_have_float (with_member k d ms) ≡ false
unfolding with_member
with_member_none k d ms new old = put_has_none k d ms new old

with_optional_none : {A : Type 0} (k : List ℕ) (w : A → Data) (x : Option A) (ms : Members) → ((y : A) → has_float (w y) ≡ false) → members_have_float ms ≡ false → members_have_float (with_optional k w x ms) ≡ false
unfolding with_optional with_member
with_optional_none k w None ms new old = old
with_optional_none k w (Some x) ms new old = put_has_none k (w x) ms (new x) old

items_none : {A : Type 0} (w : A → Data) (xs : List A) → ((y : A) → has_float (w y) ≡ false) → items_have_float (items_of (map w xs)) ≡ false
items_none w [] none = refl
items_none w (x ∷ xs) none = neither _ _ (none x) (items_none w xs none)

mutual
  pub written_has_no_float : (s : Shape) (x : Plain s) → has_float (written s x) ≡ false
  written_has_no_float number x = refl
  written_has_no_float unit x = refl
  written_has_no_float hash x = refl
  written_has_no_float text x = refl
  written_has_no_float bytes x = refl
  written_has_no_float four_units x = refl
  written_has_no_float (list s) x = items_none (written s) x (written_has_no_float s)
  written_has_no_float (struct fs) x = members_have_none fs x no_members refl

  members_have_none : (fs : Fields) (xs : Plains fs) (ms : Members) → members_have_float ms ≡ false → members_have_float (members_with fs xs ms) ≡ false
  members_have_none end xs ms old = old
  members_have_none (field n s fs) xs ms old =
      members_have_none fs xs.1 (with_member n (written s xs.0) ms) (with_member_none n (written s xs.0) ms (written_has_no_float s xs.0) old)
  members_have_none (optional n o fs) xs ms old =
      let w : Plains o → Data = λ x. json.object (members_with o x no_members) in
      members_have_none fs xs.1 (with_optional n w xs.0 ms) (with_optional_none n w xs.0 ms (λ y. members_have_none o y no_members refl) old)

-- the same, of a value that is the written one
pub no_float_of : (fs : Fields) (x : Plains fs) (start stand : Members) (d : Data) → start ≡ no_members → stand ≡ members_with fs x start → d ≡ json.object stand → has_float d ≡ false
no_float_of fs x start stand d none put is =
    ap has_float (is ∙ ap json.object (put ∙ ap (members_with fs x) none)) ∙ written_has_no_float (struct fs) x
