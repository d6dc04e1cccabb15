-- The line of a state.
use Rattle.std.specs.Prelude.{◌≡◌, ℕ, List, [], ◌∷◌, ◌++◌, Option, unwrap_or}
use Rattle.serde_json.specs.Data.{Data, null}
use Rattle.serde_json.specs.Written.{compact_text}
use Rattle.vk_form.specs.Shape.{struct}
use Rattle.vk_basic.specs.declared.shader_module.ShaderModule as modules
use Rattle.json_fold.specs.Written.{written}
use Rattle.state_words.specs.declared.state.State.{State}
use Rattle.state_words.specs.declared.state.State.TheVariants.{ShaderModule}
use Rattle.state_json.specs.States.{state_written}
use Rattle.capture_lines.specs.declared.captured.CapturedModule.{CapturedModule}
use Rattle.capture_lines.specs.Code.{code_bytes}
use Rattle.capture_lines.specs.Kinds.{word_of, kind_of_state}
use Rattle.capture_lines.specs.Tables as table
use Rattle.capture_lines.specs.Plain as plain

-- a module with its code as bytes
abbrev pub captured : modules.ShaderModule → CapturedModule
captured s = record { flags = s.flags; code = code_bytes s.code }

-- the object in the state's line; each kind but a shader module has the same one everywhere
unfoldable pub line_object : State → Data
line_object (ShaderModule s) = written (struct table.captured_module) (plain.captured_module (captured s))
line_object s = unwrap_or (state_written s) null

-- the line without its line feed
unfoldable pub line_text : State → List ℕ
line_text s = word_of (kind_of_state s) ++ 32 ∷ compact_text (line_object s)

unfoldable pub line_of : State → List ℕ
line_of s = line_text s ++ 10 ∷ []

-- something may stand after
abbrev pub Extends : List ℕ → List ℕ → Type 0
Extends old new = (more : List ℕ) × (new ≡ old ++ more)
