-- A structure that was read is read as its state.
use Rattle.std.proofs.Common.{◌≡◌, ℕ, List, Ok, refl}
use Rattle.serde_json.specs.Data.{Data}
use Rattle.vk_form.specs.Shape.{struct, Fields, Plains}
use Rattle.json_fold.specs.Reading.{reading}
use Rattle.state_words.specs.declared.state.State.{State}
use Rattle.state_json.specs.States.{read_as}

pub is_read : {S : Type 0} (state : S → State) (fs : Fields) (plain : S → Plains fs) (made : Plains fs → S) → ((x : S) → made (plain x) ≡ x) → (value : Data) (path : List ℕ) (s : S) → reading (struct fs) value path ≡ Ok (plain s) → read_as state fs made value path ≡ Ok (state s)
is_read state fs plain made back value path s e = rw (e, back s) refl
