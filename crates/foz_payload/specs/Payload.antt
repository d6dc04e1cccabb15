-- The payload of a state.
use Rattle.std.specs.Prelude.{⊤, ℕ, ◌*◌, List, [], ◌∷◌, ◌++◌, length, codes}
use Rattle.foz_words.specs.Hex.{hex_text}
use Rattle.serde_json.specs.Data as json
use Rattle.serde_json.specs.Data.{Data, no_members}
use Rattle.serde_json.specs.Written.{compact_text}
use Rattle.spirv_varint.specs.Varint.{spelling}
use Rattle.vk_basic.specs.declared.shader_module.ShaderModule as shader
use Rattle.vk_form.specs.Shape.{struct}
use Rattle.json_fold.specs.Written.{whole, written, with_member}
use Rattle.state_words.specs.declared.state.State.{State}
use Rattle.state_words.specs.declared.state.State.TheVariants.{Sampler, SetLayout, PipelineLayout, ShaderModule, RenderPass, Graphics, Compute}
use Rattle.state_words.specs.Plain.{state_fields, state_plain}
use Rattle.state_words.specs.Words.{key_of}
use Rattle.state_json.specs.declared.kind.JsonKind.TheVariants as kind
use Rattle.foz_payload.specs.Tables.{module_head}
use Rattle.foz_payload.specs.Meaning.{member_of, modules}

-- the object of a state under the digits of its hash under the member of its kind, beside the version of the format
unfoldable pub payload_value : List ℕ → ℕ → Data → Data
payload_value member hash value =
    json.object (with_member (codes "version") (whole 6) (with_member member (json.object (with_member (hex_text 16 hash) value no_members)) no_members))

-- the object of a shader module
unfoldable pub module_object : shader.ShaderModule → Data
unfolding module_head
module_object m = written (struct module_head) (m.flags, (4 * length m.code, (0, (length (spelling m.code), tt))))

abbrev pub member_of_state : State → List ℕ
member_of_state (Sampler s) = member_of kind.Sampler
member_of_state (SetLayout s) = member_of kind.SetLayout
member_of_state (PipelineLayout s) = member_of kind.PipelineLayout
member_of_state (ShaderModule s) = modules
member_of_state (RenderPass s) = member_of kind.RenderPass
member_of_state (Graphics s) = member_of kind.Graphics
member_of_state (Compute s) = member_of kind.Compute

abbrev pub object_of : State → Data
object_of (ShaderModule m) = module_object m
object_of state = written (struct (state_fields state)) (state_plain state)

-- any state but a shader module
abbrev pub IsPlain : State → Type 0
IsPlain (ShaderModule m) = ⊥
IsPlain state = ⊤

-- what stands after the JSON: for a shader module a zero byte and its words as varints
abbrev pub tail_of : State → List ℕ
tail_of (ShaderModule m) = 0 ∷ spelling m.code
tail_of state = []

unfoldable pub payload : State → List ℕ
payload state = compact_text (payload_value (member_of_state state) (key_of state).hash (object_of state)) ++ tail_of state
