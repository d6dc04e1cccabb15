-- The plan of a survey.
use Rattle.std.proofs.Common.{◌≡◌, ℕ, ◌<◌, ◌≤◌, ◌^◌, ◌==◌, zero, suc, Bool, true, false, if◌then◌else◌, nat_le, List, [], ◌∷◌, length, map, Option, Some, None, refl, sym, ap, ◌∙◌, subst, arith}
use Rattle.std.specs.Prelude.{All, position, count_by}
use Rattle.std.specs.List.{AllZip, items_where_true}
use Rattle.std.specs.Option.{is_none}
use Rattle.std.proofs.lemmas.Bool.Decides.{nat_tests}
use Rattle.std.proofs.lemmas.Grind.{get_or_picked}
use Rattle.std.proofs.lemmas.List.{length-map}
use Rattle.std.proofs.lemmas.List.Quantifiers.{position-Some}
use Rattle.std.proofs.lemmas.List.Sums.{count_by-le-length}
use Rattle.std.proofs.lemmas.Slice.Zip.{AllZip-long}
use Rattle.foz_words.specs.Key.{is_key}
use Rattle.foz_words.specs.declared.key.Key.{Key}
use Rattle.foz_words.specs.contracts.key.KeyPartialEq.TheImpl as KeyPartialEq
use Rattle.foz_entry.specs.declared.cut.Entry.{Entry}
use Rattle.foz_entry.specs.declared.cut.Cut.{Cut}
use Rattle.foz_entry.specs.declared.damage.EntryCause.TheVariants.{Deflate, BadFormat, TooLarge, SizeDiffers}
use Rattle.foz_entry.specs.Damage.{damage, checksum_damage}
use Rattle.foz_entry.specs.Limits.{payload_limit}
use Rattle.foz_crc.specs.Crc32.{crc32_of}
use Rattle.foz_entry.specs.Entries.{is_undamaged}
use Rattle.state_words.specs.References.{refs_of}
use Rattle.replay_core.specs.declared.plan.Plan.{Plan}
use Rattle.replay_core.specs.declared.plan.Dep.{Dep}
use Rattle.replay_core.specs.Histories.{IsInRange, IsPlan}
use Rattle.foz_payload.proofs.Small.{means_few}
use Rattle.dep_graph.specs.declared.survey.Survey.{Survey}
use Rattle.dep_graph.specs.Classes.{is_item}
use Rattle.dep_graph.specs.Items.{item_entries, item_keys, dep_from, dep_on, DependsAs, HasItsSize}
use Rattle.dep_graph.specs.Surveys.{IsSurvey, RefersTo, dep_held, deps_held}
use Rattle.dep_graph.proofs.Lists.{pairs_map, picked_count}
use Rattle.dep_graph.proofs.Surveyed.{keys_count}

all_map : {A B : Type 0} (Q : A → Type 0) (P : B → Type 0) (f : A → B) (xs : List A) → ((x : A) → Q x → P (f x)) → All Q xs → All P (map f xs)
all_map Q P f [] g h i d k = absurd (omega (arith, k))
all_map Q P f (x ∷ xs) g h zero d k = g x (h 0 x (omega arith))
all_map {A} {B} Q P f (x ∷ xs) g h (suc i) d k = all_map Q P f xs g (λ j e l. h (suc j) e (omega (arith, l))) i d (omega (arith, k))

all_pairs : {A B : Type 0} (R : A → B → Type 0) (P : A → Type 0) (Q : B → Type 0) (xs : List A) (ys : List B) → ((x : A) (y : B) → P x → R x y → Q y) → All P xs → AllZip R xs ys → All Q ys
all_pairs R P Q [] [] g p h i d k = absurd (omega (arith, k))
all_pairs R P Q [] (y ∷ ys) g p h i d k = absurd h
all_pairs R P Q (x ∷ xs) [] g p h i d k = absurd h
all_pairs R P Q (x ∷ xs) (y ∷ ys) g p h zero d k = g x y (p 0 x (omega arith)) h.0
all_pairs R P Q (x ∷ xs) (y ∷ ys) g p h (suc i) d k = all_pairs R P Q xs ys g (λ j e l. p (suc j) e (omega (arith, l))) h.1 i d (omega (arith, k))

all_any : {A : Type 0} (xs : List A) → All (λ x. Unit {0}) xs
all_any xs i d k = tt

all_picked : (P : Entry → Type 0) (bs : List Bool) (xs : List Entry) → All P xs → All P (items_where_true bs xs)
all_picked P bs xs h i d k = let (j, inside, same) = (get_or_picked bs xs i d k).1 in subst P (sym same) (h j d inside)

-- the plan is as the entries' states say
pub depends : (entries : List Entry) (survey : Survey) → IsSurvey KeyPartialEq.ghosts.eq survey entries
    → AllZip (DependsAs (item_keys entries survey.classes)) (item_entries entries survey.classes) (map (deps_held entries survey.classes) survey.refs)
depends entries survey known =
    pairs_map RefersTo (DependsAs (item_keys entries survey.classes)) (deps_held entries survey.classes) (item_entries entries survey.classes) survey.refs
    (λ entry refs meant. record {
      state = meant.state;
      meant = meant.meant;
      named = ap (map (dep_held entries survey.classes)) meant.named ∙ ap (λ (f : Key → Dep). map f (refs_of meant.state)) same;
    }) known.refs
  where
    same : dep_held entries survey.classes ≡ dep_on (item_keys entries survey.classes)
    same = λ i. λ key. dep_from (sym (known.numbers key) i) key

limit_of : (head : Cut) (payload : List ℕ) → is_none (damage head payload) ≡ true → head.size ≤ payload_limit
limit_of head payload e = by_format (head.format == 2) (head.format == 1) (nat_le head.size payload_limit) refl e
  where
    by_format : (a b c : Bool) → nat_le head.size payload_limit ≡ c
        → is_none (if a then Some Deflate else if b then (if c then (if head.size == head.uncompressed then checksum_damage head.crc (crc32_of payload) else Some (SizeDiffers head.size head.uncompressed)) else Some (TooLarge head.size)) else Some (BadFormat head.format)) ≡ true
        → head.size ≤ payload_limit
    by_format true b c t e = absurd cc
    by_format false false c t e = absurd cc
    by_format false true false t e = absurd cc
    by_format false true true t e = grind (arith, nat_tests)

sound_limit : (entry : Entry) → is_undamaged entry ≡ true → entry.head.size ≤ payload_limit
unfolding is_undamaged
sound_limit entry e = limit_of entry.head entry.payload e

dep_inside : (o : Option ℕ) (key : Key) (n : ℕ) → ((i : ℕ) → o ≡ Some i → i < n) → IsInRange n (dep_from o key)
dep_inside (Some i) key n h = h i refl
dep_inside None key n h = tt

inside : (keys : List Key) (key : Key) → IsInRange (length keys) (dep_on keys key)
inside keys key = dep_inside (position (is_key key) keys) key (length keys) (λ i e. (position-Some (is_key key) keys i key e).0)

module _ (entries : List Entry) (survey : Survey) (known : IsSurvey KeyPartialEq.ghosts.eq survey entries) where
  counted : length (item_entries entries survey.classes) ≡ count_by is_item survey.classes
  unfolding item_entries
  counted = picked_count is_item survey.classes entries known.classes.long

  keyed : length (item_keys entries survey.classes) ≡ length (item_entries entries survey.classes)
  keyed = keys_count entries survey.classes known.classes.long ∙ sym counted

  all_sized : All HasItsSize entries → All HasItsSize (item_entries entries survey.classes)
  unfolding item_entries
  all_sized sized = all_picked HasItsSize (map is_item survey.classes) entries sized

  held_inside : (key : Key) → IsInRange (length (item_entries entries survey.classes)) (dep_held entries survey.classes key)
  held_inside key =
      subst (λ (n : ℕ). IsInRange n (dep_held entries survey.classes key)) keyed
      (subst (λ (o : Option ℕ). IsInRange (length (item_keys entries survey.classes)) (dep_from o key)) (known.numbers key) (inside (item_keys entries survey.classes) key))

  few_refs : All HasItsSize entries → All (λ (refs : List Key). length refs < 2 ^ 30) survey.refs
  few_refs sized = all_pairs RefersTo HasItsSize (λ (refs : List Key). length refs < 2 ^ 30) (item_entries entries survey.classes) survey.refs
      (λ entry refs size meant.
      let limit : entry.head.size ≤ payload_limit = sound_limit entry meant.sound in
      subst (λ (rs : List Key). length rs < 2 ^ 30) (sym meant.named) (means_few entry.head.key entry.payload meant.state meant.meant (omega (arith, size, limit))))
      (all_sized sized) known.refs

  -- a scheduler takes the plan
  pub planned : (plan : Plan) → plan.deps ≡ map (deps_held entries survey.classes) survey.refs → length entries ≤ 1048576 → All HasItsSize entries → IsPlan plan
  planned plan deps few sized = record {
    items = let a = known.classes.long in let b = count_by-le-length is_item survey.classes in omega (arith, long, counted, a, b, few);
    short = subst (All (λ (ds : List Dep). length ds < 2 ^ 30)) (sym deps)
        (all_map (λ (refs : List Key). length refs < 2 ^ 30) (λ (ds : List Dep). length ds < 2 ^ 30) (deps_held entries survey.classes) survey.refs
        (λ refs h. subst (λ (n : ℕ). n < 2 ^ 30) (sym (length-map refs (dep_held entries survey.classes))) h) (few_refs sized));
    in_range = subst (All (All (IsInRange (length plan.deps)))) (sym deps)
        (all_map (λ (refs : List Key). Unit {0}) (All (IsInRange (length plan.deps))) (deps_held entries survey.classes) survey.refs
        (λ refs u. all_map (λ (key : Key). Unit {0}) (IsInRange (length plan.deps)) (dep_held entries survey.classes) refs
        (λ key v. subst (λ (n : ℕ). IsInRange n (dep_held entries survey.classes key)) (sym long) (held_inside key)) (all_any refs)) (all_any survey.refs));
  }
    where
      long : length plan.deps ≡ length (item_entries entries survey.classes)
      long = ap length deps ∙ (length-map survey.refs (deps_held entries survey.classes) ∙ AllZip-long RefersTo (item_entries entries survey.classes) survey.refs known.refs)
