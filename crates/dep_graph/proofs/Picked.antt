-- The entry of an item, found by its place.
use Rattle.std.proofs.Common.{◌≡◌, ℕ, zero, suc, ◌+◌, ◌<◌, ⊎_elim, Bool, true, false, List, [], ◌∷◌, length, map, get_or, Some, refl, sym, ap, ◌∙◌, subst, arith}
use Rattle.std.specs.Prelude.{slice_get, option_and_then}
use Rattle.std.specs.List.{AllZip, items_where_true, range_with_len}
use Rattle.std.proofs.lemmas.List.{length-map}
use Rattle.std.proofs.lemmas.Option.{slice_get-get_or, slice_get_cases}
use Rattle.foz_entry.specs.declared.cut.Entry.{Entry}
use Rattle.dep_graph.specs.declared.class.Class.{Class}
use Rattle.dep_graph.specs.Classes.{is_item}
use Rattle.dep_graph.specs.Items.{item_places, item_entries, item_keys, DependsAs}
use Rattle.dep_graph.specs.declared.graph.Graph.{Graph}
use Rattle.dep_graph.proofs.Surveyed.{places_count, keys_count}
use Rattle.replay_core.specs.Plans.{items_of}
use Rattle.dep_graph.specs.Graphs.{IsPlanOf, entry_at}

-- the element at this place is the one that is picked as this number
pub record IsPickedAt {X : Type 0} (bs : List Bool) (xs : List X) (number place : ℕ) : Type 0 where
  pub inside : place < length xs
  pub same : slice_get (items_where_true bs xs) number ≡ slice_get xs place

some_same : (a b : ℕ) → Some a ≡ Some b → a ≡ b
some_same a b e = cc

module _ {X : Type 0} where
  later : (bs : List Bool) (x : X) (xs : List X) (number place : ℕ) → IsPickedAt bs xs number place → IsPickedAt (false ∷ bs) (x ∷ xs) number (suc place)
  later bs x xs number place p = record { inside = (let within = p.inside in omega arith); same = p.same }

  later_behind : (bs : List Bool) (x : X) (xs : List X) (number place : ℕ) → IsPickedAt bs xs number place → IsPickedAt (true ∷ bs) (x ∷ xs) (suc number) (suc place)
  later_behind bs x xs number place p = record { inside = (let within = p.inside in omega arith); same = p.same }

  picked_at : (bs : List Bool) (xs : List X) (a number place : ℕ) → length bs ≡ length xs → slice_get (items_where_true bs (range_with_len a (length bs))) number ≡ Some place
      → (behind : ℕ) × (place ≡ a + behind) × IsPickedAt bs xs number behind
  picked_at [] xs a number place e found = absurd cc
  picked_at (b ∷ bs) [] a number place e found = absurd (omega (arith, e))
  picked_at (true ∷ bs) (x ∷ xs) a zero place e found = (0, (let same : a ≡ place = some_same a place found in omega (arith, same)), record { inside = omega arith; same = refl })
  picked_at (true ∷ bs) (x ∷ xs) a (suc number) place e found =
      let more = picked_at bs xs (a + 1) number place (omega (arith, e)) found in
      (suc more.0, omega (arith, more.1), later_behind bs x xs number more.0 more.2)
  picked_at (false ∷ bs) (x ∷ xs) a number place e found =
      let more = picked_at bs xs (a + 1) number place (omega (arith, e)) found in
      (suc more.0, omega (arith, more.1), later bs x xs number more.0 more.2)

pairs_long : {A B : Type 0} (R : A → B → Type 0) (xs : List A) (ys : List B) → AllZip R xs ys → length xs ≡ length ys
pairs_long R [] [] h = refl
pairs_long R [] (y ∷ ys) h = absurd h
pairs_long R (x ∷ xs) [] h = absurd h
pairs_long R (x ∷ xs) (y ∷ ys) h = ap suc (pairs_long R xs ys h.1)

keys_long : (entries : List Entry) (classes : List Class) → length (item_keys entries classes) ≡ length (item_entries entries classes)
unfolding item_keys
keys_long entries classes = length-map (item_entries entries classes) (λ (entry : Entry). entry.head.key)

-- an item's entry stands at its place
stands_at : (entries : List Entry) (classes : List Class) (number place : ℕ) → length classes ≡ length entries → slice_get (item_places classes) number ≡ Some place
    → (place < length entries) × (slice_get (item_entries entries classes) number ≡ slice_get entries place)
unfolding item_places item_entries
stands_at entries classes number place long found =
    let flags = length-map classes is_item in
    let got = picked_at (map is_item classes) entries 0 number place (flags ∙ long) (subst (λ (n : ℕ). slice_get (items_where_true (map is_item classes) (range_with_len 0 n)) number ≡ Some place) (sym flags) found) in
    let same : got.0 ≡ place = omega (arith, got.1) in
    (subst (λ (n : ℕ). n < length entries) same got.2.inside, got.2.same ∙ ap (slice_get entries) same)

-- each item of the plan has a place
number_inside : (entries : List Entry) (graph : Graph) (number : ℕ) → IsPlanOf entries graph → number < items_of graph.plan → number < length graph.items
number_inside entries graph number is below =
    let places = ap length is.items ∙ places_count graph.classes in
    let keys = keys_count entries graph.classes is.long in
    let rows = pairs_long (DependsAs (item_keys entries graph.classes)) (item_entries entries graph.classes) graph.plan.deps is.deps in
    let named = keys_long entries graph.classes in
    omega (arith, places, keys, rows, named)

-- the item's entry, which stands at the item's place
pub record IsEntryOf (entries : List Entry) (graph : Graph) (item : ℕ) : Type 0 where
  pub entry : Entry
  pub picked : slice_get (item_entries entries graph.classes) item ≡ Some entry
  pub placed : entry_at entries graph item ≡ Some entry

pub entry_of_item : (entries : List Entry) (graph : Graph) (item : ℕ) → IsPlanOf entries graph → item < items_of graph.plan → IsEntryOf entries graph item
entry_of_item entries graph item is below =
    let place : ℕ = get_or graph.items item 0 in
    let at_place : slice_get graph.items item ≡ Some place = slice_get-get_or graph.items item 0 (number_inside entries graph item is below) in
    let found = stands_at entries graph.classes item place is.long (subst (λ (places : List ℕ). slice_get places item ≡ Some place) is.items at_place) in
    ⊎_elim
    (λ there. record { entry = there.0; picked = found.1 ∙ there.2; placed = ap (option_and_then (slice_get entries)) at_place ∙ there.2 })
    (λ past. absurd (let a = found.0 in let b = past.0 in omega (arith, a, b)))
    (slice_get_cases entries place).1
