-- States whose payloads are read as these states.
use Rattle.std.specs.Prelude.{◌≡◌, ◌^◌, ◌<◌, ◌≤◌, All, true, Some}
use Rattle.std.specs.Str.{is_utf8}
use Rattle.serde_json.specs.Data.{Data, depth}
use Rattle.serde_json.specs.Read.{read, max_depth}
use Rattle.serde_json.specs.Written.{compact_text}
use Rattle.state_words.specs.declared.state.State.{State}
use Rattle.state_words.specs.declared.state.State.TheVariants.{ShaderModule}
use Rattle.state_words.specs.Words.{key_of}
use Rattle.state_json.specs.States.{IsInStateRange}
use Rattle.foz_payload.specs.Payload.{payload_value, member_of_state, object_of}

-- Its numbers, words and bytes are ones that a program holds.
abbrev pub IsHeld : State → Type 0
IsHeld (ShaderModule m) = (m.flags < 2 ^ 32) × All (λ word. word < 2 ^ 32) m.code
IsHeld state = IsInStateRange state

-- the JSON of a payload
abbrev pub json_of : State → Data
json_of state = payload_value (member_of_state state) (key_of state).hash (object_of state)

-- The text of the value is UTF-8 and is read as the value, unless it nests too deep.
pub record IsReadAgain (value : Data) : Type 0 where
  pub utf8 : is_utf8 (compact_text value) ≡ true
  pub read : depth value ≤ max_depth → read (compact_text value) ≡ Some value
