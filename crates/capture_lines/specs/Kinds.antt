-- The kinds of lines, and their words.
use Rattle.std.specs.Prelude.{ℕ, List, [], ◌∷◌, Option, find, codes}
use Rattle.std.specs.Str.{bytes_eq}
use Rattle.state_json.specs.declared.kind.JsonKind.TheVariants.{Sampler, SetLayout, PipelineLayout, RenderPass, Graphics, Compute}
use Rattle.state_words.specs.declared.state.State.{State}
use Rattle.state_words.specs.declared.state.State.TheVariants as state
use Rattle.capture_lines.specs.declared.kind.LineKind.{LineKind}
use Rattle.capture_lines.specs.declared.kind.LineKind.TheVariants.{Object, ShaderModule}

-- the word that a kind's lines begin with
unfoldable pub word_of : LineKind → List ℕ
word_of (Object Sampler) = codes "sampler"
word_of (Object SetLayout) = codes "set_layout"
word_of (Object PipelineLayout) = codes "pipeline_layout"
word_of ShaderModule = codes "shader_module"
word_of (Object RenderPass) = codes "render_pass"
word_of (Object Graphics) = codes "graphics_pipeline"
word_of (Object Compute) = codes "compute_pipeline"

abbrev pub all_kinds : List LineKind
all_kinds =
    Object Sampler ∷ Object SetLayout ∷ Object PipelineLayout ∷ ShaderModule ∷ Object RenderPass ∷ Object Graphics ∷ Object Compute ∷ []

-- the kind that has this word
unfoldable pub kind_of : List ℕ → Option LineKind
kind_of word = find (λ kind. bytes_eq (word_of kind) word) all_kinds

unfoldable pub kind_of_state : State → LineKind
kind_of_state (state.Sampler s) = Object Sampler
kind_of_state (state.SetLayout s) = Object SetLayout
kind_of_state (state.PipelineLayout s) = Object PipelineLayout
kind_of_state (state.ShaderModule s) = ShaderModule
kind_of_state (state.RenderPass s) = Object RenderPass
kind_of_state (state.Graphics s) = Object Graphics
kind_of_state (state.Compute s) = Object Compute
