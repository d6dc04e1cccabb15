-- The numbers of the items that hold a key, with one entry more.
use Rattle.std.proofs.Common.{◌≡◌, ℕ, ◌<◌, ◌≤◌, get_or, Bool, true, false, List, [], ◌∷◌, ◌++◌, length, Option, Some, None, refl, sym, ap, ◌∙◌, subst}
use Rattle.std.specs.Prelude.{option_and_then}
use Rattle.std.proofs.lemmas.Option.{slice_get-get_or, slice_get_past}
use Rattle.foz_words.specs.Key.{is_key}
use Rattle.foz_words.specs.declared.key.Key.{Key}
use Rattle.foz_entry.specs.declared.cut.Entry.{Entry}
use Rattle.record_words.specs.Entries.{holds_key, holder}
use Rattle.record_words.specs.Index.{IsFirstOfKey}
use Rattle.record_words.proofs.Holders.{key_same}
use Rattle.record_words.proofs.Rows.{holder_push, holder_below, first_or}
use Rattle.replay_core.specs.declared.plan.Dep.TheVariants.{Absent}
use Rattle.dep_graph.specs.Items.{dep_from}
use Rattle.dep_graph.specs.declared.class.Class.{Class}
use Rattle.dep_graph.specs.declared.class.Class.TheVariants.{Damaged, Duplicate, Kept, Unreadable, Item}
use Rattle.dep_graph.specs.Classes.{is_item}
use Rattle.dep_graph.specs.Surveys.{number_of, number_in, number_held, dep_held}
use Rattle.dep_graph.proofs.Lists.{first_alone, got_before, got_last}
use Rattle.dep_graph.proofs.Indexed.{sound_push}

abbrev pub number_at : List Class → Option ℕ → Option ℕ
number_at classes held = option_and_then (number_in classes) held

none_numbered : (class : Class) → is_item class ≡ false → number_of class ≡ None
none_numbered (Damaged cause) e = refl
none_numbered (Duplicate first) e = refl
none_numbered Kept e = refl
none_numbered (Unreadable cause) e = refl
none_numbered (Item number) e = absurd cc

module _ (classes : List Class) (class : Class) where
  kept_at : (i : ℕ) → i < length classes → number_at (classes ++ class ∷ []) (Some i) ≡ number_at classes (Some i)
  kept_at i h = ap (option_and_then number_of) (got_before classes class i h)

  last_at : (n : ℕ) → n ≡ length classes → number_at (classes ++ class ∷ []) (Some n) ≡ number_of class
  last_at n e = ap (option_and_then number_of) (got_last classes class n e)

  -- a class that is no item's
  other_at : (held : Option ℕ) (b : Bool) (n : ℕ) → n ≡ length classes → ((i : ℕ) → held ≡ Some i → i < n) → number_of class ≡ None
      → number_at (classes ++ class ∷ []) (first_or held b n) ≡ number_at classes held
  other_at (Some i) b n e below none = kept_at i (subst (λ m. i < m) e (below i refl))
  other_at None true n e below none = last_at n e ∙ none
  other_at None false n e below none = refl

  -- an item's class, where the key is the item's only if none held it
  item_at : (held : Option ℕ) (b : Bool) (n number : ℕ) → n ≡ length classes → ((i : ℕ) → held ≡ Some i → i < n) → (b ≡ true → held ≡ None) → number_of class ≡ Some number
      → number_at (classes ++ class ∷ []) (first_or held b n) ≡ first_or (number_at classes held) b number
  item_at (Some i) true n number e below free numbered = absurd (let f : Some i ≡ None = free refl in cc)
  item_at (Some i) false n number e below free numbered =
      kept_at i (subst (λ m. i < m) e (below i refl)) ∙ sym (first_alone (number_at classes (Some i)) number)
  item_at None true n number e below free numbered = last_at n e ∙ numbered
  item_at None false n number e below free numbered = refl

module _ (before : List Entry) (entry : Entry) (classes : List Class) (long : length classes ≡ length before) (key : Key) where
  pub other_number : (class : Class) → is_item class ≡ false → number_held (before ++ entry ∷ []) (classes ++ class ∷ []) key ≡ number_held before classes key
  unfolding number_held
  other_number class none =
      ap (number_at (classes ++ class ∷ [])) (holder_push key before entry)
      ∙ other_at classes class (holder key before) (holds_key key entry) (length before) (sym long) (holder_below key before) (none_numbered class none)

  pub item_number : (number : ℕ) → IsFirstOfKey before entry
      → number_held (before ++ entry ∷ []) (classes ++ Item number ∷ []) key ≡ first_or (number_held before classes key) (is_key key entry.head.key) number
  unfolding number_held
  item_number number first =
      ap (number_at (classes ++ Item number ∷ [])) (sound_push before entry key first.sound)
      ∙ item_at classes (Item number) (holder key before) (is_key key entry.head.key) (length before) number (sym long) (holder_below key before)
      (λ t. subst (λ (z : Key). holder z before ≡ None) (sym (key_same key entry.head.key t)) first.first) refl

module _ (entries : List Entry) (classes : List Class) (key : Key) where
  pub none_number : holder key entries ≡ None → number_held entries classes key ≡ None
  unfolding number_held
  none_number e = ap (number_at classes) e

  pub none_holds : holder key entries ≡ None → Absent key ≡ dep_held entries classes key
  unfolding number_held
  none_holds e = sym (ap (λ (held : Option ℕ). dep_from (number_at classes held) key) e)

  pub number_holds : (place : ℕ) (number : Option ℕ) → holder key entries ≡ Some place → number ≡ number_in classes place → dep_from number key ≡ dep_held entries classes key
  unfolding number_held
  number_holds place number e told = ap (λ (o : Option ℕ). dep_from o key) told ∙ sym (ap (λ (held : Option ℕ). dep_from (number_at classes held) key) e)

module _ (classes : List Class) (place : ℕ) where
  pub there : (class : Class) → place < length classes → class ≡ get_or classes place class → number_in classes place ≡ number_of class
  there class inside is = ap (option_and_then number_of) (slice_get-get_or classes place class inside ∙ ap Some (sym is))

  pub past : length classes ≤ place → number_in classes place ≡ None
  past outside = ap (option_and_then number_of) (slice_get_past classes place outside)
