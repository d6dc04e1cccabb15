-- The payload that was written for a state, and that it means the state.
use Rattle.std.proofs.Common.{◌≡◌, ℕ, ◌<◌, ◌≤◌, ◌^◌, List, [], ◌∷◌, ◌++◌, length, Option, Some, None, Ok, refl, sym, subst, append-nil}
use Rattle.std.specs.Prelude.{All}
use Rattle.std.specs.Option.{option_map}
use Rattle.serde_json.specs.Data.{Data}
use Rattle.serde_json.specs.View.{view}
use Rattle.serde_json.specs.Written.{compact_text}
use Rattle.serde_json.specs.declared.value.Value.{Value}
use Rattle.spirv_varint.specs.Varint.{spelling}
use Rattle.vk_basic.specs.declared.shader_module.ShaderModule as shader
use Rattle.state_words.specs.declared.state.State.{State}
use Rattle.state_words.specs.declared.state.State.TheVariants.{Sampler, SetLayout, PipelineLayout, ShaderModule, RenderPass, Graphics, Compute}
use Rattle.state_words.specs.Words.{key_of}
use Rattle.state_json.specs.States.{state_written, IsInStateRange}
use Rattle.foz_payload.specs.Held.{IsHeld, IsReadAgain, json_of}
use Rattle.foz_payload.specs.Meaning.{Means, modules}
use Rattle.foz_payload.specs.Payload.{IsPlain, member_of_state, module_object, object_of, payload, payload_value}
use Rattle.foz_payload.proofs.ReadBack.{read_back}

means : (s : State) (bytes : List ℕ) → bytes ≡ payload s → IsHeld s → IsReadAgain (json_of s) → length bytes ≤ 16_777_216 → Means (key_of s) bytes (Ok s)
means s bytes is held again small =
    subst (λ (b : List ℕ). Means (key_of s) b (Ok s)) (sym is) (read_back s held again (subst (λ (b : List ℕ). length b ≤ 16_777_216) is small))

-- ---- all kinds but shader modules

pub is_plain : (s : State) → ((m : shader.ShaderModule) → s ≡ ShaderModule m → ⊥) → IsPlain s
is_plain (ShaderModule m) other = other m refl
is_plain (Sampler s) other = tt
is_plain (SetLayout s) other = tt
is_plain (PipelineLayout s) other = tt
is_plain (RenderPass s) other = tt
is_plain (Graphics s) other = tt
is_plain (Compute s) other = tt

has_object : (s : State) → IsPlain s → None ≡ state_written s → ⊥
unfolding state_written
has_object (ShaderModule m) plain is = plain
has_object (Sampler s) plain is = absurd cc
has_object (SetLayout s) plain is = absurd cc
has_object (PipelineLayout s) plain is = absurd cc
has_object (RenderPass s) plain is = absurd cc
has_object (Graphics s) plain is = absurd cc
has_object (Compute s) plain is = absurd cc

pub always_some : (s : State) (value : Option Value) → IsPlain s → option_map view value ≡ state_written s → ((inner : Value) → value ≡ Some inner → ⊥) → ⊥
always_some s (Some inner) plain is none = none inner refl
always_some s None plain is none = has_object s plain is

pub object_is : (s : State) (inner : Data) → IsPlain s → Some inner ≡ state_written s → inner ≡ object_of s
unfolding state_written
object_is (ShaderModule m) inner plain is = absurd plain
object_is (Sampler s) inner plain is = cc
object_is (SetLayout s) inner plain is = cc
object_is (PipelineLayout s) inner plain is = cc
object_is (RenderPass s) inner plain is = cc
object_is (Graphics s) inner plain is = cc
object_is (Compute s) inner plain is = cc

is_held : (s : State) → IsPlain s → IsInStateRange s → IsHeld s
is_held (ShaderModule m) plain range = absurd plain
is_held (Sampler s) plain range = range
is_held (SetLayout s) plain range = range
is_held (PipelineLayout s) plain range = range
is_held (RenderPass s) plain range = range
is_held (Graphics s) plain range = range
is_held (Compute s) plain range = range

text_alone : (s : State) → IsPlain s → compact_text (json_of s) ≡ payload s
unfolding payload
text_alone (ShaderModule m) plain = absurd plain
text_alone (Sampler s) plain = sym (append-nil _)
text_alone (SetLayout s) plain = sym (append-nil _)
text_alone (PipelineLayout s) plain = sym (append-nil _)
text_alone (RenderPass s) plain = sym (append-nil _)
text_alone (Graphics s) plain = sym (append-nil _)
text_alone (Compute s) plain = sym (append-nil _)

module _ (s : State) (member : List ℕ) (hash : ℕ) (inner : Data) (bytes : List ℕ) (plain : IsPlain s)
    (of_member : member ≡ member_of_state s) (of_hash : hash ≡ (key_of s).hash) (of_object : inner ≡ object_of s) (of_text : bytes ≡ compact_text (payload_value member hash inner)) where
  value_is : payload_value member hash inner ≡ json_of s
  value_is = rw (of_member, of_hash, of_object) refl

  pub plain_written : bytes ≡ payload s
  plain_written = rw of_text (rw value_is (text_alone s plain))

  pub plain_means : IsInStateRange s → IsReadAgain (payload_value member hash inner) → length bytes ≤ 16_777_216 → Means (key_of s) bytes (Ok s)
  plain_means range again = means s bytes plain_written (is_held s plain range) (subst IsReadAgain value_is again)

-- ---- shader modules

module _ (m : shader.ShaderModule) (hash : ℕ) (inner : Data) (text bytes varints : List ℕ)
    (of_hash : hash ≡ (key_of (ShaderModule m)).hash) (of_object : inner ≡ module_object m) (of_text : text ≡ compact_text (payload_value modules hash inner)) (of_bytes : bytes ≡ text ++ 0 ∷ varints)
    (of_varints : varints ≡ spelling m.code) where
  module_value_is : payload_value modules hash inner ≡ json_of (ShaderModule m)
  module_value_is = rw (of_hash, of_object) refl

  pub module_written : bytes ≡ payload (ShaderModule m)
  unfolding payload
  module_written = rw (of_bytes, of_text, of_varints, module_value_is) refl

  pub module_means : All (λ word. word < 2 ^ 32) m.code → m.flags < 2 ^ 32 → IsReadAgain (payload_value modules hash inner) → length bytes ≤ 16_777_216 → Means (key_of (ShaderModule m)) bytes (Ok (ShaderModule m))
  module_means words flags again = means (ShaderModule m) bytes module_written (flags, words) (subst IsReadAgain module_value_is again)
