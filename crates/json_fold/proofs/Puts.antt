-- Members that were put one after the other are those of the fields.
use Rattle.std.proofs.Common.{◌≡◌, List, ℕ, Option, refl, ap, ◌∙◌}
use Rattle.serde_json.specs.Data.{Members}
use Rattle.vk_form.specs.Shape.{Shape, struct, Fields, end, field, optional, Plain, Plains}
use Rattle.json_fold.specs.Written.{written, with_member, with_optional, members_with}

pub data Puts : (fs : Fields) → Members → Plains fs → Members → Type 0 where
  done : {ms : Members} → Puts end ms tt ms
  then_field : {name : List ℕ} {s : Shape} {fs : Fields} {old mid new : Members} {x : Plain s} {xs : Plains fs} → mid ≡ with_member name (written s x) old → Puts fs mid xs new → Puts (field name s fs) old (x, xs) new
  then_optional : {name : List ℕ} {o fs : Fields} {old mid new : Members} {x : Option (Plains o)} {xs : Plains fs} → mid ≡ with_optional name (written (struct o)) x old → Puts fs mid xs new → Puts (optional name o fs) old (x, xs) new

puts : {fs : Fields} {old new : Members} {xs : Plains fs} → Puts fs old xs new → new ≡ members_with fs xs old
puts done = refl
puts (then_field {name} {s} {fs} {old} {mid} {new} {x} {xs} put more) = puts more ∙ ap (members_with fs xs) put
puts (then_optional {name} {o} {fs} {old} {mid} {new} {x} {xs} put more) = puts more ∙ ap (members_with fs xs) put

pub all_put : (fs : Fields) (xs : Plains fs) (old new : Members) → Puts fs old xs new → new ≡ members_with fs xs old
all_put fs xs old new h = puts h
