-- The keys that were seen.
use Rattle.std.proofs.Common.{◌≡◌, Bool, true, false, not, Ok, Err, cond, ◌&&◌, ◌||◌, List, [], ◌∷◌, ◌++◌, is_none, Option, Some, None, refl, sym, ap, ◌∙◌}
use Rattle.std.proofs.lemmas.List.Folds.{list_any-append}
use Rattle.foz_words.specs.declared.key.Key.{Key}
use Rattle.foz_words.specs.Key.{is_key}
use Rattle.foz_entry.specs.declared.cut.Entry.{Entry}
use Rattle.foz_entry.specs.declared.damage.EntryCause.{EntryCause}
use Rattle.foz_entry.specs.Damage.{damage, ok_unless}
use Rattle.foz_text.specs.declared.list_text.Soundness.TheVariants.{Sound, Duplicate}
use Rattle.foz_text.specs.ListText.{holds, standing, standing_after}

or_same : (held same : Bool) → cond same true held ≡ (held || ((same && true) || false))
or_same true true = refl
or_same true false = refl
or_same false true = refl
or_same false false = refl

or_none : (held same : Bool) → held ≡ (held || ((same && false) || false))
or_none true true = refl
or_none true false = refl
or_none false true = refl
or_none false false = refl

-- what `check` answers
pub undamaged_of : (o : Option EntryCause) (u : Prim.Unit {0}) → Ok u ≡ ok_unless o → o ≡ None
undamaged_of None u is = refl
undamaged_of (Some cause) u is = absurd cc

pub damaged_of : (o : Option EntryCause) (cause : EntryCause) → Err cause ≡ ok_unless o → is_none o ≡ false
damaged_of None cause is = absurd cc
damaged_of (Some other) cause is = refl

not_true : (b : Bool) → not b ≡ true → b ≡ false
not_true true is = absurd cc
not_true false is = refl

not_false : (b : Bool) → not b ≡ false → b ≡ true
not_false true is = refl
not_false false is = absurd cc

-- an undamaged entry is a duplicate where its key was held
standing_is : (before : List Entry) (entry : Entry) (held : Bool) → damage entry.head entry.payload ≡ None → holds before entry.head.key ≡ held → cond held Duplicate Sound ≡ standing before entry
standing_is before entry held undamaged is = sym (ap (λ (o : Option EntryCause). standing_after o (holds before entry.head.key)) undamaged ∙ ap (λ (b : Bool). cond b Duplicate Sound) is)

pub is_new : (before : List Entry) (entry : Entry) (added held : Bool) → damage entry.head entry.payload ≡ None → held ≡ holds before entry.head.key → added ≡ not held → added ≡ true → Sound ≡ standing before entry
is_new before entry added held undamaged is adds new = standing_is before entry false undamaged (sym is ∙ not_true held (sym adds ∙ new))

pub is_known : (before : List Entry) (entry : Entry) (added held : Bool) → damage entry.head entry.payload ≡ None → held ≡ holds before entry.head.key → added ≡ not held → added ≡ false → Duplicate ≡ standing before entry
is_known before entry added held undamaged is adds old = standing_is before entry true undamaged (sym is ∙ not_false held (sym adds ∙ old))

module _ (before : List Entry) (entry : Entry) (key : Key) where
  abbrev hit : Entry → Bool
  hit e = is_key e.head.key key && is_none (damage e.head e.payload)

  one_more : holds (before ++ entry ∷ []) key ≡ (holds before key || ((is_key entry.head.key key && is_none (damage entry.head entry.payload)) || false))
  one_more = list_any-append hit before (entry ∷ [])

  -- one more undamaged entry adds its key
  pub after_undamaged : (held : Bool) → held ≡ holds before key → damage entry.head entry.payload ≡ None → cond (is_key entry.head.key key) true held ≡ holds (before ++ entry ∷ []) key
  after_undamaged held is undamaged =
      ap (cond (is_key entry.head.key key) true) is ∙ or_same (holds before key) (is_key entry.head.key key)
      ∙ ap (λ (b : Bool). holds before key || ((is_key entry.head.key key && b) || false)) (sym (ap is_none undamaged)) ∙ sym one_more

  -- a damaged one adds none
  pub after_damaged : (held : Bool) → held ≡ holds before key → is_none (damage entry.head entry.payload) ≡ false → held ≡ holds (before ++ entry ∷ []) key
  after_damaged held is damaged =
      is ∙ or_none (holds before key) (is_key entry.head.key key)
      ∙ ap (λ (b : Bool). holds before key || ((is_key entry.head.key key && b) || false)) (sym damaged) ∙ sym one_more
