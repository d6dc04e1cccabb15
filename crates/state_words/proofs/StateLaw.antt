-- Equal words are those of equal states.
use Rattle.std.proofs.Common.{◌≡◌, ℕ, List, [], ◌++◌, sym, ap, ◌∙◌}
use Rattle.vk_form.specs.Shape.{Fields, Plains}
use Rattle.vk_form.specs.Words.{field_words}
use Rattle.vk_form.proofs.WordLaws.{field_words_tell}
use Rattle.vk_basic.specs.Tables as basic_table
use Rattle.vk_basic.specs.Plain as basic_plain
use Rattle.vk_basic.specs.Made as basic_made
use Rattle.vk_basic.specs.Back as basic_back
use Rattle.vk_pass.specs.Tables as pass_table
use Rattle.vk_pass.specs.Plain as pass_plain
use Rattle.vk_pass.specs.Made as pass_made
use Rattle.vk_pass.specs.Back as pass_back
use Rattle.vk_pipe.specs.Tables as pipe_table
use Rattle.vk_pipe.specs.Plain as pipe_plain
use Rattle.vk_pipe.specs.Made as pipe_made
use Rattle.vk_pipe.specs.Back as pipe_back
use Rattle.state_words.specs.declared.state.State.TheVariants.{Sampler, SetLayout, PipelineLayout, ShaderModule, RenderPass, Graphics, Compute}
use Rattle.state_words.specs.Words.{words_of, EqualWordsEqualStates}

-- structures of one table with equal words are equal
same : {S : Type 0} (fs : Fields) (plain : S → Plains fs) (made : Plains fs → S) → ((x : S) → made (plain x) ≡ x) → (x y : S) → field_words fs (plain x) ≡ field_words fs (plain y) → x ≡ y
same fs plain made back x y e =
    let values = (field_words_tell fs (plain x) (plain y) [] [] (ap (λ (l : List ℕ). l ++ []) e)).0 in
    sym (back x) ∙ ap made values ∙ back y

pub equal_words_equal_states : EqualWordsEqualStates
unfolding words_of
equal_words_equal_states (Sampler x) (Sampler y) e =
    let fields : field_words basic_table.sampler (basic_plain.sampler x) ≡ field_words basic_table.sampler (basic_plain.sampler y) = cc in
    ap Sampler (same basic_table.sampler basic_plain.sampler basic_made.sampler basic_back.sampler x y fields)
equal_words_equal_states (Sampler x) (SetLayout y) e = absurd cc
equal_words_equal_states (Sampler x) (PipelineLayout y) e = absurd cc
equal_words_equal_states (Sampler x) (ShaderModule y) e = absurd cc
equal_words_equal_states (Sampler x) (RenderPass y) e = absurd cc
equal_words_equal_states (Sampler x) (Graphics y) e = absurd cc
equal_words_equal_states (Sampler x) (Compute y) e = absurd cc
equal_words_equal_states (SetLayout x) (Sampler y) e = absurd cc
equal_words_equal_states (SetLayout x) (SetLayout y) e =
    let fields : field_words basic_table.set_layout (basic_plain.set_layout x) ≡ field_words basic_table.set_layout (basic_plain.set_layout y) = cc in
    ap SetLayout (same basic_table.set_layout basic_plain.set_layout basic_made.set_layout basic_back.set_layout x y fields)
equal_words_equal_states (SetLayout x) (PipelineLayout y) e = absurd cc
equal_words_equal_states (SetLayout x) (ShaderModule y) e = absurd cc
equal_words_equal_states (SetLayout x) (RenderPass y) e = absurd cc
equal_words_equal_states (SetLayout x) (Graphics y) e = absurd cc
equal_words_equal_states (SetLayout x) (Compute y) e = absurd cc
equal_words_equal_states (PipelineLayout x) (Sampler y) e = absurd cc
equal_words_equal_states (PipelineLayout x) (SetLayout y) e = absurd cc
equal_words_equal_states (PipelineLayout x) (PipelineLayout y) e =
    let fields : field_words basic_table.pipeline_layout (basic_plain.pipeline_layout x) ≡ field_words basic_table.pipeline_layout (basic_plain.pipeline_layout y) = cc in
    ap PipelineLayout (same basic_table.pipeline_layout basic_plain.pipeline_layout basic_made.pipeline_layout basic_back.pipeline_layout x y fields)
equal_words_equal_states (PipelineLayout x) (ShaderModule y) e = absurd cc
equal_words_equal_states (PipelineLayout x) (RenderPass y) e = absurd cc
equal_words_equal_states (PipelineLayout x) (Graphics y) e = absurd cc
equal_words_equal_states (PipelineLayout x) (Compute y) e = absurd cc
equal_words_equal_states (ShaderModule x) (Sampler y) e = absurd cc
equal_words_equal_states (ShaderModule x) (SetLayout y) e = absurd cc
equal_words_equal_states (ShaderModule x) (PipelineLayout y) e = absurd cc
equal_words_equal_states (ShaderModule x) (ShaderModule y) e =
    let fields : field_words basic_table.shader_module (basic_plain.shader_module x) ≡ field_words basic_table.shader_module (basic_plain.shader_module y) = cc in
    ap ShaderModule (same basic_table.shader_module basic_plain.shader_module basic_made.shader_module basic_back.shader_module x y fields)
equal_words_equal_states (ShaderModule x) (RenderPass y) e = absurd cc
equal_words_equal_states (ShaderModule x) (Graphics y) e = absurd cc
equal_words_equal_states (ShaderModule x) (Compute y) e = absurd cc
equal_words_equal_states (RenderPass x) (Sampler y) e = absurd cc
equal_words_equal_states (RenderPass x) (SetLayout y) e = absurd cc
equal_words_equal_states (RenderPass x) (PipelineLayout y) e = absurd cc
equal_words_equal_states (RenderPass x) (ShaderModule y) e = absurd cc
equal_words_equal_states (RenderPass x) (RenderPass y) e =
    let fields : field_words pass_table.render_pass (pass_plain.render_pass x) ≡ field_words pass_table.render_pass (pass_plain.render_pass y) = cc in
    ap RenderPass (same pass_table.render_pass pass_plain.render_pass pass_made.render_pass pass_back.render_pass x y fields)
equal_words_equal_states (RenderPass x) (Graphics y) e = absurd cc
equal_words_equal_states (RenderPass x) (Compute y) e = absurd cc
equal_words_equal_states (Graphics x) (Sampler y) e = absurd cc
equal_words_equal_states (Graphics x) (SetLayout y) e = absurd cc
equal_words_equal_states (Graphics x) (PipelineLayout y) e = absurd cc
equal_words_equal_states (Graphics x) (ShaderModule y) e = absurd cc
equal_words_equal_states (Graphics x) (RenderPass y) e = absurd cc
equal_words_equal_states (Graphics x) (Graphics y) e =
    let fields : field_words pipe_table.graphics_pipeline (pipe_plain.graphics_pipeline x) ≡ field_words pipe_table.graphics_pipeline (pipe_plain.graphics_pipeline y) = cc in
    ap Graphics (same pipe_table.graphics_pipeline pipe_plain.graphics_pipeline pipe_made.graphics_pipeline pipe_back.graphics_pipeline x y fields)
equal_words_equal_states (Graphics x) (Compute y) e = absurd cc
equal_words_equal_states (Compute x) (Sampler y) e = absurd cc
equal_words_equal_states (Compute x) (SetLayout y) e = absurd cc
equal_words_equal_states (Compute x) (PipelineLayout y) e = absurd cc
equal_words_equal_states (Compute x) (ShaderModule y) e = absurd cc
equal_words_equal_states (Compute x) (RenderPass y) e = absurd cc
equal_words_equal_states (Compute x) (Graphics y) e = absurd cc
equal_words_equal_states (Compute x) (Compute y) e =
    let fields : field_words pipe_table.compute_pipeline (pipe_plain.compute_pipeline x) ≡ field_words pipe_table.compute_pipeline (pipe_plain.compute_pipeline y) = cc in
    ap Compute (same pipe_table.compute_pipeline pipe_plain.compute_pipeline pipe_made.compute_pipeline pipe_back.compute_pipeline x y fields)
