-- What is known after one entry more.
use Rattle.std.proofs.Common.{◌≡◌, ℕ, ◌+◌, ◌<◌, ◌≤◌, Bool, true, false, cond, ⊎_elim, eq-or-lt_of_le, List, [], ◌∷◌, ◌++◌, length, take, map, get_or, Option, Some, None, refl, sym, ap, ◌∙◌, subst, length-append, arith}
use Rattle.std.specs.Prelude.{position, count_by}
use Rattle.std.specs.List.{AllZip, items_where_true, range_with_len}
use Rattle.std.proofs.lemmas.List.{map-append, take-append-le, get_or_append_left, length-map}
use Rattle.std.proofs.lemmas.List.Sums.{count_by-le-length}
use Rattle.std.proofs.lemmas.Option.{slice_get_within}
use Rattle.std.proofs.lemmas.List.FromFn.{length-range_with_len}
use Rattle.std.proofs.Math.Seq.{take-append_seam, get_or-append_seam}
use Rattle.foz_words.specs.Key.{is_key}
use Rattle.foz_words.specs.declared.key.Key.{Key}
use Rattle.foz_words.specs.contracts.key.KeyPartialEq.TheImpl as KeyPartialEq
use Rattle.foz_entry.specs.declared.cut.Entry.{Entry}
use Rattle.indexmap.specs.IndexMap.{get}
use Rattle.record_words.specs.Index.{IsIndexOf}
use Rattle.record_words.proofs.Rows.{first_or}
use Rattle.record_words.proofs.Holders.{none_held, key_itself}
use Rattle.dep_graph.specs.declared.class.Class.{Class}
use Rattle.dep_graph.specs.declared.class.Class.TheVariants.{Item}
use Rattle.dep_graph.specs.declared.survey.Survey.{Survey}
use Rattle.dep_graph.specs.Classes.{is_item, HasClass, IsCandidate, AreClassesOf}
use Rattle.dep_graph.specs.Items.{item_places, item_entries, item_keys, AreDistinct}
use Rattle.dep_graph.specs.Surveys.{RefersTo, IsSurvey, number_held}
use Rattle.dep_graph.proofs.Lists.{position_push, picked_count, picked_push, range_push, pairs_push, got_before, got_last}
use Rattle.dep_graph.proofs.Numbers.{number_at, none_number, other_number, item_number}

moved : (b c : List Entry) (m n : ℕ) (e f : Entry) (x y : Class) → b ≡ c → m ≡ n → e ≡ f → x ≡ y → HasClass b m e x → HasClass c n f y
moved b c m n e f x y p q r s h =
    subst (λ (z : Class). HasClass c n f z) s (subst (λ (z : Entry). HasClass c n z x) r (subst (λ (z : ℕ). HasClass c z e x) q (subst (λ (z : List Entry). HasClass z m e x) p h)))

module _ (before : List Entry) (entry : Entry) (classes : List Class) (class : Class) where
  pub classes_push : AreClassesOf before classes → HasClass before (count_by is_item classes) entry class → AreClassesOf (before ++ entry ∷ []) (classes ++ class ∷ [])
  classes_push old new = record {
    long = let a = old.long in let b = length-append before (entry ∷ []) in let c = length-append classes (class ∷ []) in omega (arith, a, b, c);
    each = λ i e x h. ⊎_elim (λ (s : i ≡ length before). last i e x s) (λ (s : i < length before). earlier i e x s)
        (eq-or-lt_of_le (let b : length (before ++ entry ∷ []) ≡ length before + 1 = length-append before (entry ∷ []) in let k : i ≤ length before = omega (arith, h, b) in k));
  }
    where
      earlier : (i : ℕ) (e : Entry) (x : Class) → i < length before → HasClass (take i (before ++ entry ∷ [])) (count_by is_item (take i (classes ++ class ∷ []))) (get_or (before ++ entry ∷ []) i e) (get_or (classes ++ class ∷ []) i x)
      earlier i e x s =
          let t : i < length classes = subst (λ n. i < n) (sym old.long) s in
          moved (take i before) (take i (before ++ entry ∷ [])) (count_by is_item (take i classes)) (count_by is_item (take i (classes ++ class ∷ [])))
          (get_or before i e) (get_or (before ++ entry ∷ []) i e) (get_or classes i x) (get_or (classes ++ class ∷ []) i x)
          (sym (take-append-le i before (entry ∷ []) (omega (arith, s)))) (ap (count_by is_item) (sym (take-append-le i classes (class ∷ []) (omega (arith, t)))))
          (sym (get_or_append_left before (entry ∷ []) e i s)) (sym (get_or_append_left classes (class ∷ []) x i t)) (old.each i e x s)

      at_end : (e : Entry) (x : Class) → HasClass (take (length before) (before ++ entry ∷ [])) (count_by is_item (take (length classes) (classes ++ class ∷ []))) (get_or (before ++ entry ∷ []) (length before) e) (get_or (classes ++ class ∷ []) (length classes) x)
      at_end e x =
          moved before (take (length before) (before ++ entry ∷ [])) (count_by is_item classes) (count_by is_item (take (length classes) (classes ++ class ∷ [])))
          entry (get_or (before ++ entry ∷ []) (length before) e) class (get_or (classes ++ class ∷ []) (length classes) x)
          (sym (take-append_seam before (entry ∷ []))) (ap (count_by is_item) (sym (take-append_seam classes (class ∷ []))))
          (sym (get_or-append_seam before entry [] e)) (sym (get_or-append_seam classes class [] x)) new

      last : (i : ℕ) (e : Entry) (x : Class) → i ≡ length before → HasClass (take i (before ++ entry ∷ [])) (count_by is_item (take i (classes ++ class ∷ []))) (get_or (before ++ entry ∷ []) i e) (get_or (classes ++ class ∷ []) i x)
      last i e x s = subst (λ (z : ℕ). HasClass (take z (before ++ entry ∷ [])) (count_by is_item (take z (classes ++ class ∷ []))) (get_or (before ++ entry ∷ []) z e) (get_or (classes ++ class ∷ []) z x)) (sym s)
          (subst (λ (z : ℕ). HasClass (take (length before) (before ++ entry ∷ [])) (count_by is_item (take z (classes ++ class ∷ []))) (get_or (before ++ entry ∷ []) (length before) e) (get_or (classes ++ class ∷ []) z x)) old.long (at_end e x))

  module _ (long : length classes ≡ length before) where
    pub entries_push : item_entries (before ++ entry ∷ []) (classes ++ class ∷ []) ≡ item_entries before classes ++ cond (is_item class) (entry ∷ []) []
    unfolding item_entries
    entries_push =
        ap (λ (bs : List Bool). items_where_true bs (before ++ entry ∷ [])) (map-append is_item classes (class ∷ []))
        ∙ picked_push (map is_item classes) before (is_item class) entry (length-map classes is_item ∙ long)

    keys_by : (b : Bool) → is_item class ≡ b → item_keys (before ++ entry ∷ []) (classes ++ class ∷ []) ≡ item_keys before classes ++ cond b (entry.head.key ∷ []) []
    unfolding item_keys
    keys_by true e = ap (map (λ (z : Entry). z.head.key)) (entries_push ∙ ap (λ (b : Bool). item_entries before classes ++ cond b (entry ∷ []) []) e) ∙ map-append (λ (z : Entry). z.head.key) (item_entries before classes) (entry ∷ [])
    keys_by false e = ap (map (λ (z : Entry). z.head.key)) (entries_push ∙ ap (λ (b : Bool). item_entries before classes ++ cond b (entry ∷ []) []) e) ∙ map-append (λ (z : Entry). z.head.key) (item_entries before classes) []

  pub places_push : item_places (classes ++ class ∷ []) ≡ item_places classes ++ cond (is_item class) (length classes ∷ []) []
  unfolding item_places
  places_push =
      ap (λ (bs : List Bool). items_where_true bs (range_with_len 0 (length (classes ++ class ∷ [])))) (map-append is_item classes (class ∷ []))
      ∙ (ap (items_where_true (map is_item classes ++ is_item class ∷ [])) (range_push (length classes) (length (classes ++ class ∷ [])) (length-append classes (class ∷ [])))
      ∙ picked_push (map is_item classes) (range_with_len 0 (length classes)) (is_item class) (length classes) (length-map classes is_item ∙ sym (length-range_with_len 0 (length classes))))

some_same : {X : Type 0} (a b : X) → Some a ≡ Some b → a ≡ b
some_same a b e = cc

-- a key that did not stand there is found last
distinct_push : (keys : List Key) (new : Key) → AreDistinct keys → position (is_key new) keys ≡ None → is_key new new ≡ true → AreDistinct (keys ++ new ∷ [])
distinct_push keys new distinct free same i key e =
    ⊎_elim (λ (s : i ≡ length keys). last s) (λ (s : i < length keys). earlier s)
    (eq-or-lt_of_le (let within = slice_get_within (keys ++ new ∷ []) i key e in let long = length-append keys (new ∷ []) in let k : i ≤ length keys = omega (arith, within, long) in k))
  where
    earlier : i < length keys → position (is_key key) (keys ++ new ∷ []) ≡ Some i
    earlier s = position_push (is_key key) keys new ∙ ap (λ (o : Option ℕ). first_or o (is_key key new) (length keys)) (distinct i key (sym (got_before keys new i s) ∙ e))

    found_last : position (is_key new) (keys ++ new ∷ []) ≡ Some (length keys)
    found_last = position_push (is_key new) keys new ∙ (ap (λ (o : Option ℕ). first_or o (is_key new new) (length keys)) free ∙ ap (λ (b : Bool). first_or None b (length keys)) same)

    last : i ≡ length keys → position (is_key key) (keys ++ new ∷ []) ≡ Some i
    last s = subst (λ (k : Key). position (is_key k) (keys ++ new ∷ []) ≡ Some i) (some_same new key (sym (got_last keys new i s) ∙ e)) (found_last ∙ ap Some (sym s))

append_none : {X : Type 0} (xs : List X) → xs ++ [] ≡ xs
append_none [] = refl
append_none (x ∷ xs) = ap (λ ys. x ∷ ys) (append_none xs)

pub places_count : (classes : List Class) → length (item_places classes) ≡ count_by is_item classes
unfolding item_places
places_count classes = picked_count is_item classes (range_with_len 0 (length classes)) (sym (length-range_with_len 0 (length classes)))

pub keys_count : (entries : List Entry) (classes : List Class) → length classes ≡ length entries → length (item_keys entries classes) ≡ count_by is_item classes
unfolding item_keys item_entries
keys_count entries classes long = length-map (item_entries entries classes) (λ (z : Entry). z.head.key) ∙ picked_count is_item classes entries long

module _ (before : List Entry) (entry : Entry) (old new : Survey) (known : IsSurvey KeyPartialEq.ghosts.eq old before) (indexed : IsIndexOf (get KeyPartialEq.ghosts.eq new.index) (before ++ entry ∷ [])) where
  -- an entry that is no item
  pub other_more : (class : Class) → ((items : ℕ) → HasClass before items entry class) → is_item class ≡ false
      → new.classes ≡ old.classes ++ class ∷ [] → new.items ≡ old.items → new.refs ≡ old.refs → IsSurvey KeyPartialEq.ghosts.eq new (before ++ entry ∷ [])
  other_more class has none classes items refs = record {
    index = indexed;
    classes = subst (AreClassesOf (before ++ entry ∷ [])) (sym classes) (classes_push before entry old.classes class known.classes (has (count_by is_item old.classes)));
    items = items ∙ (known.items ∙ sym (ap item_places classes ∙ (places_push before entry old.classes class ∙ (ap (λ (b : Bool). item_places old.classes ++ cond b (length old.classes ∷ []) []) none ∙ append_none (item_places old.classes)))));
    distinct = subst AreDistinct (sym same_keys) known.distinct;
    refs = subst (λ (rs : List (List Key)). AllZip RefersTo (item_entries (before ++ entry ∷ []) new.classes) rs) (sym refs) (subst (λ (es : List Entry). AllZip RefersTo es old.refs) (sym same_entries) known.refs);
    numbers = λ key. ap (position (is_key key)) same_keys ∙ (known.numbers key ∙ sym (ap (λ (cs : List Class). number_held (before ++ entry ∷ []) cs key) classes ∙ other_number before entry old.classes known.classes.long key class none));
  }
    where
      same_entries : item_entries (before ++ entry ∷ []) new.classes ≡ item_entries before old.classes
      same_entries = ap (item_entries (before ++ entry ∷ [])) classes ∙ (entries_push before entry old.classes class known.classes.long ∙ (ap (λ (b : Bool). item_entries before old.classes ++ cond b (entry ∷ []) []) none ∙ append_none (item_entries before old.classes)))

      same_keys : item_keys (before ++ entry ∷ []) new.classes ≡ item_keys before old.classes
      same_keys = ap (item_keys (before ++ entry ∷ [])) classes ∙ (keys_by before entry old.classes class known.classes.long false none ∙ append_none (item_keys before old.classes))

  -- an item
  pub item_more : (refs : List Key) (place number : ℕ) → IsCandidate before entry → RefersTo entry refs → place ≡ length old.classes → number ≡ length old.items
      → new.classes ≡ old.classes ++ Item number ∷ [] → new.items ≡ old.items ++ place ∷ [] → new.refs ≡ old.refs ++ refs ∷ [] → IsSurvey KeyPartialEq.ghosts.eq new (before ++ entry ∷ [])
  item_more refs place number candidate meant place_is number_is classes items rows = record {
    index = indexed;
    classes = subst (AreClassesOf (before ++ entry ∷ [])) (sym classes) (classes_push before entry old.classes (Item number) known.classes (candidate, (meant.state, meant.meant), counted));
    items = items ∙ (ap (λ (xs : List ℕ). xs ++ place ∷ []) known.items ∙ (ap (λ (n : ℕ). item_places old.classes ++ n ∷ []) place_is ∙ sym (ap item_places classes ∙ places_push before entry old.classes (Item number))));
    refs = subst (λ (rs : List (List Key)). AllZip RefersTo (item_entries (before ++ entry ∷ []) new.classes) rs) (sym rows)
        (subst (λ (es : List Entry). AllZip RefersTo es (old.refs ++ refs ∷ [])) (sym more_entries) (pairs_push RefersTo (item_entries before old.classes) old.refs entry refs known.refs meant));
    distinct = subst AreDistinct (sym more_keys)
        (distinct_push (item_keys before old.classes) entry.head.key known.distinct
        (known.numbers entry.head.key ∙ none_number before old.classes entry.head.key candidate.of_key.first) (key_itself entry.head.key));
    numbers = λ key. ap (position (is_key key)) more_keys ∙ (position_push (is_key key) (item_keys before old.classes) entry.head.key ∙ (ap (first_or (position (is_key key) (item_keys before old.classes)) (is_key key entry.head.key)) keyed
        ∙ (ap (λ (o : Option ℕ). first_or o (is_key key entry.head.key) number) (known.numbers key) ∙ sym (ap (λ (cs : List Class). number_held (before ++ entry ∷ []) cs key) classes ∙ item_number before entry old.classes known.classes.long key number candidate.of_key))));
  }
    where
      counted : number ≡ count_by is_item old.classes
      counted = number_is ∙ (ap length known.items ∙ places_count old.classes)

      keyed : length (item_keys before old.classes) ≡ number
      keyed = keys_count before old.classes known.classes.long ∙ sym counted

      more_entries : item_entries (before ++ entry ∷ []) new.classes ≡ item_entries before old.classes ++ entry ∷ []
      more_entries = ap (item_entries (before ++ entry ∷ [])) classes ∙ entries_push before entry old.classes (Item number) known.classes.long

      more_keys : item_keys (before ++ entry ∷ []) new.classes ≡ item_keys before old.classes ++ entry.head.key ∷ []
      more_keys = ap (item_keys (before ++ entry ∷ [])) classes ∙ keys_by before entry old.classes (Item number) known.classes.long true refl

-- no more items than entries
pub fewer_items : (entries : List Entry) (survey : Survey) → IsSurvey KeyPartialEq.ghosts.eq survey entries → length survey.items ≤ length survey.classes
fewer_items entries survey known =
    let count : length survey.items ≡ count_by is_item survey.classes = ap length known.items ∙ places_count survey.classes in
    let few = count_by-le-length is_item survey.classes in
    omega (arith, count, few)

none_numbered : (key : Key) → position (is_key key) (item_keys [] []) ≡ number_held [] [] key
unfolding item_keys item_entries number_held
none_numbered key = sym (ap (number_at []) (none_held key))

none_distinct : AreDistinct (item_keys [] [])
unfolding item_keys item_entries
none_distinct i key e = cc

none_placed : [] ≡ item_places []
unfolding item_places
none_placed = refl

none_listed : [] ≡ item_entries [] []
unfolding item_entries
none_listed = refl

pub none_surveyed : (new : Survey) → IsIndexOf (get KeyPartialEq.ghosts.eq new.index) [] → new.classes ≡ [] → new.items ≡ [] → new.refs ≡ [] → IsSurvey KeyPartialEq.ghosts.eq new []
none_surveyed new indexed classes items refs = record {
  index = indexed;
  classes = record {
    long = ap length classes;
    each = λ i e x h. absurd (let k : i < 0 = h in omega (arith, k));
  };
  items = items ∙ (none_placed ∙ ap item_places (sym classes));
  refs = subst (λ (cs : List Class). AllZip RefersTo (item_entries [] cs) new.refs) (sym classes)
      (subst (λ (es : List Entry). AllZip RefersTo es new.refs) none_listed (subst (λ (rs : List (List Key)). AllZip RefersTo [] rs) (sym refs) tt));
  distinct = subst (λ (cs : List Class). AreDistinct (item_keys [] cs)) (sym classes) none_distinct;
  numbers = λ key. subst (λ (cs : List Class). position (is_key key) (item_keys [] cs) ≡ number_held [] cs key) (sym classes) (none_numbered key);
}
