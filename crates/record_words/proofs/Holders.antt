-- What an entry after the others adds to the holders.
use Rattle.std.proofs.Common.{◌≡◌, ℕ, Bool, true, false, cond, ◌&&◌, ◌==◌, List, [], ◌∷◌, ◌++◌, length, Option, Some, None, is_some, is_ok, refl, sym, ap, ◌∙◌, subst, arith}
use Rattle.std.specs.Option.{is_none}
use Rattle.std.proofs.lemmas.Bool.Decides.{nat_tests}
use Rattle.foz_words.specs.declared.key.Key.{Key}
use Rattle.foz_words.specs.Key.{is_key}
use Rattle.foz_entry.specs.declared.cut.Entry.{Entry}
use Rattle.foz_entry.specs.declared.damage.EntryCause.{EntryCause}
use Rattle.foz_entry.specs.Damage.{damage, ok_unless}
use Rattle.foz_entry.specs.Entries.{is_undamaged}
use Rattle.record_words.specs.Entries.{holds_key, holder}
use Rattle.record_words.specs.Index.{IsIndexOf, AreKeysHeld, Puts, IsFirstOfKey}
use Rattle.record_words.proofs.Rows.{holder_push, first_or}

pub none_held : (key : Key) → holder key [] ≡ None
unfolding holder
none_held key = refl

pub both_true : (a b : Bool) → a ≡ true → b ≡ true → (a && b) ≡ true
both_true true b p q = q
both_true false b p q = p

pub parts_true : (a b : Bool) → (a && b) ≡ true → (a ≡ true) × (b ≡ true)
parts_true true b p = (refl, p)
parts_true false b p = absurd cc

right_false : (a b : Bool) → b ≡ false → (a && b) ≡ false
right_false true b q = q
right_false false b q = refl

pub key_same : (a b : Key) → is_key a b ≡ true → a ≡ b
key_same a b t =
    let p = parts_true (a.tag == b.tag) (a.hash == b.hash) t in
    let first = p.0 in
    let second = p.1 in
    let tags : a.tag ≡ b.tag = grind (arith, nat_tests) in
    let hashes : a.hash ≡ b.hash = grind (arith, nat_tests) in
    λ i. record { tag = tags i; hash = hashes i }

same_turned : (x y : ℕ) → (x == y) ≡ (y == x)
same_turned x y = grind (arith, nat_tests)

pub key_turned : (a b : Key) → is_key a b ≡ is_key b a
key_turned a b = rw (same_turned a.tag b.tag, same_turned a.hash b.hash) refl

same_itself : (x : ℕ) → (x == x) ≡ true
same_itself x = grind (arith, nat_tests)

pub key_itself : (a : Key) → is_key a a ≡ true
key_itself a = both_true (a.tag == a.tag) (a.hash == a.hash) (same_itself a.tag) (same_itself a.hash)

first_alone : (o : Option ℕ) (n : ℕ) → first_or o false n ≡ o
first_alone (Some i) n = refl
first_alone None n = refl

first_held : (o : Option ℕ) (b : Bool) (n : ℕ) → is_some o ≡ true → first_or o b n ≡ o
first_held (Some i) b n e = refl
first_held None b n e = absurd cc

pub none_of : (o : Option ℕ) → is_some o ≡ false → o ≡ None
none_of None e = refl
none_of (Some i) e = absurd cc

passes_none : (o : Option EntryCause) → is_ok (ok_unless o) ≡ is_none o
passes_none None = refl
passes_none (Some cause) = refl

pub checked : (entry : Entry) → is_ok (ok_unless (damage entry.head entry.payload)) ≡ is_undamaged entry
unfolding is_undamaged
checked entry = passes_none (damage entry.head entry.payload)

module _ (entries : List Entry) (entry : Entry) where
  other_key : (key : Key) → is_key entry.head.key key ≡ false → holder key (entries ++ entry ∷ []) ≡ holder key entries
  other_key key t =
      let miss : holds_key key entry ≡ false = right_false (is_undamaged entry) (is_key key entry.head.key) (key_turned key entry.head.key ∙ t) in
      holder_push key entries entry ∙ (ap (λ (z : Bool). first_or (holder key entries) z (length entries)) miss ∙ first_alone (holder key entries) (length entries))

  pub damaged_adds_none : is_undamaged entry ≡ false → (key : Key) → holder key (entries ++ entry ∷ []) ≡ holder key entries
  damaged_adds_none damaged key =
      holder_push key entries entry ∙ (ap (λ (z : Bool). first_or (holder key entries) (z && is_key key entry.head.key) (length entries)) damaged ∙ first_alone (holder key entries) (length entries))

  pub held_adds_none : is_some (holder entry.head.key entries) ≡ true → (key : Key) → holder key (entries ++ entry ∷ []) ≡ holder key entries
  held_adds_none held key = by_test (is_key entry.head.key key) refl
    where
      by_test : (b : Bool) → is_key entry.head.key key ≡ b → holder key (entries ++ entry ∷ []) ≡ holder key entries
      by_test true t =
          let here : is_some (holder key entries) ≡ true = subst (λ (z : Key). is_some (holder z entries) ≡ true) (key_same entry.head.key key t) held in
          holder_push key entries entry ∙ first_held (holder key entries) (holds_key key entry) (length entries) here
      by_test false t = other_key key t

  pub first_adds : IsFirstOfKey entries entry → (key : Key) → holder key (entries ++ entry ∷ []) ≡ cond (is_key entry.head.key key) (Some (length entries)) (holder key entries)
  first_adds is key = by_test (is_key entry.head.key key) refl
    where
      by_test : (b : Bool) → is_key entry.head.key key ≡ b → holder key (entries ++ entry ∷ []) ≡ cond b (Some (length entries)) (holder key entries)
      by_test true t =
          let none : holder key entries ≡ None = subst (λ (z : Key). holder z entries ≡ None) (key_same entry.head.key key t) is.first in
          let hit : holds_key key entry ≡ true = both_true (is_undamaged entry) (is_key key entry.head.key) is.sound (key_turned key entry.head.key ∙ t) in
          holder_push key entries entry ∙ (ap (λ (z : Option ℕ). first_or z (holds_key key entry) (length entries)) none ∙ ap (λ (z : Bool). first_or None z (length entries)) hit)
      by_test false t = other_key key t

pub index_damaged : (look_up : Key → Option ℕ) (before : List Entry) (entry : Entry) → IsIndexOf look_up before → is_undamaged entry ≡ false → IsIndexOf look_up (before ++ entry ∷ [])
index_damaged look_up before entry indexed damaged key = indexed key ∙ sym (damaged_adds_none before entry damaged key)

pub index_held : (look_up : Key → Option ℕ) (before : List Entry) (entry : Entry) → IsIndexOf look_up before → is_some (look_up entry.head.key) ≡ true → IsIndexOf look_up (before ++ entry ∷ [])
index_held look_up before entry indexed held key = indexed key ∙ sym (held_adds_none before entry (sym (ap is_some (indexed entry.head.key)) ∙ held) key)

pub index_first : (old new : Key → Option ℕ) (before : List Entry) (entry : Entry) (place : ℕ) → IsIndexOf old before → is_undamaged entry ≡ true → old entry.head.key ≡ None
    → length before ≡ place → Puts old new entry.head.key (Some place) → IsIndexOf new (before ++ entry ∷ [])
index_first old new before entry place indexed sound free long puts key =
    let is : IsFirstOfKey before entry = record { sound = sound; first = sym (indexed entry.head.key) ∙ free } in
    puts key ∙ (ap (λ (n : ℕ). cond (is_key entry.head.key key) (Some n) (old key)) (sym long)
    ∙ (ap (λ (o : Option ℕ). cond (is_key entry.head.key key) (Some (length before)) o) (indexed key) ∙ sym (first_adds before entry is key)))

pub keys_damaged : (is_among : Key → Bool) (before : List Entry) (entry : Entry) → AreKeysHeld is_among before → is_undamaged entry ≡ false → AreKeysHeld is_among (before ++ entry ∷ [])
keys_damaged is_among before entry are damaged key = are key ∙ sym (ap is_some (damaged_adds_none before entry damaged key))

some_cond : (b : Bool) (n : ℕ) (o : Option ℕ) → is_some (cond b (Some n) o) ≡ cond b true (is_some o)
some_cond true n o = refl
some_cond false n o = refl

pub keys_undamaged : (old new : Key → Bool) (before : List Entry) (entry : Entry) → AreKeysHeld old before → is_undamaged entry ≡ true → Puts old new entry.head.key true → AreKeysHeld new (before ++ entry ∷ [])
keys_undamaged old new before entry are sound puts key =
    puts key ∙ (ap (λ (b : Bool). cond (is_key entry.head.key key) true b) (are key) ∙ by_holder (holder entry.head.key before) refl)
  where
    by_holder : (o : Option ℕ) → holder entry.head.key before ≡ o → cond (is_key entry.head.key key) true (is_some (holder key before)) ≡ is_some (holder key (before ++ entry ∷ []))
    by_holder None free = sym (ap is_some (first_adds before entry (record { sound = sound; first = free }) key) ∙ some_cond (is_key entry.head.key key) (length before) (holder key before))
    by_holder (Some i) held = by_test (is_key entry.head.key key) refl ∙ sym (ap is_some (held_adds_none before entry (ap is_some held) key))
      where
        by_test : (b : Bool) → is_key entry.head.key key ≡ b → cond b true (is_some (holder key before)) ≡ is_some (holder key before)
        by_test true t = sym (subst (λ (z : Key). is_some (holder z before) ≡ true) (key_same entry.head.key key t) (ap is_some held))
        by_test false t = refl
