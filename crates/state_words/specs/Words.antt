-- The words of a state, and the key that they give.
use Rattle.std.specs.Prelude.{◌≡◌, ℕ, List, ◌∷◌}
use Rattle.foz_words.specs.declared.key.Key.{Key}
use Rattle.state_hash.specs.Mixing.{hash_of}
use Rattle.vk_form.specs.Words.{field_words}
use Rattle.vk_form.specs.Ordinary.{AreOrdinary}
use Rattle.state_words.specs.declared.state.State.{State}
use Rattle.state_words.specs.Plain.{tag_of, state_fields, state_plain}

-- the tag, and then the fields in order
unfoldable pub words_of : State → List ℕ
words_of state = tag_of state ∷ field_words (state_fields state) (state_plain state)

unfoldable pub key_of : State → Key
key_of state = record { tag = tag_of state; hash = hash_of (words_of state) }

-- Each list, text and byte field has fewer than 2^30 elements.
abbrev pub IsOrdinaryState : State → Type 0
IsOrdinaryState state = AreOrdinary (state_fields state) (state_plain state)

-- Equal words are those of equal states.
abbrev pub EqualWordsEqualStates : Type 0
EqualWordsEqualStates = (x y : State) → words_of x ≡ words_of y → x ≡ y
