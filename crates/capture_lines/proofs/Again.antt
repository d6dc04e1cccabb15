-- What is written of a state is read as it.
use Rattle.std.proofs.Common.{◌≡◌, ℕ, ◌≤◌, List, [], ◌∷◌, ◌++◌, Option, Some, None, Result, Ok, true, refl, sym, ap, ◌∙◌, lit≤}
use Rattle.std.specs.Prelude.{option_map}
use Rattle.serde_json.specs.Data.{Data, depth}
use Rattle.serde_json.specs.Read.{max_depth}
use Rattle.serde_json.specs.Written.{compact_text}
use Rattle.vk_form.specs.Shape.{struct, Fields, Plains}
use Rattle.vk_basic.specs.Tables as basic_table
use Rattle.vk_basic.specs.Plain as basic_plain
use Rattle.vk_basic.specs.Made as basic_made
use Rattle.vk_basic.specs.Back as basic_back
use Rattle.vk_basic.specs.declared.shader_module.ShaderModule as modules
use Rattle.vk_pass.specs.declared.render_pass.RenderPass as passes
use Rattle.vk_pipe.specs.declared.graphics.GraphicsPipeline as graphics
use Rattle.vk_pipe.specs.declared.compute.ComputePipeline as compute
use Rattle.vk_pass.specs.Tables as pass_table
use Rattle.vk_pass.specs.Plain as pass_plain
use Rattle.vk_pass.specs.Made as pass_made
use Rattle.vk_pass.specs.Back as pass_back
use Rattle.vk_pipe.specs.Tables as pipe_table
use Rattle.vk_pipe.specs.Plain as pipe_plain
use Rattle.vk_pipe.specs.Made as pipe_made
use Rattle.vk_pipe.specs.Back as pipe_back
use Rattle.json_basic.specs.Names as basic_names
use Rattle.json_pass.specs.Names as pass_names
use Rattle.json_pipe.specs.Names as pipe_names
use Rattle.json_fold.specs.Reading.{reading}
use Rattle.json_fold.specs.Written.{written, AreInRange}
use Rattle.json_fold.specs.Sound.{is_sound}
use Rattle.json_fold.proofs.RoundTrip.{written_is_read}
use Rattle.state_words.specs.declared.state.State.{State}
use Rattle.state_words.specs.declared.state.State.TheVariants.{Sampler, SetLayout, PipelineLayout, ShaderModule, RenderPass, Graphics, Compute}
use Rattle.state_json.specs.Parsed.{parsed}
use Rattle.state_json.specs.States.{read_as, state_reading, state_written, IsInStateRange}
use Rattle.state_json.proofs.ReadAs.{is_read}
use Rattle.capture_lines.specs.Cutting.{is_skipped, cut}
use Rattle.capture_lines.specs.Code.{code_bytes, code_words}
use Rattle.capture_lines.specs.Kinds.{kind_of_state, word_of}
use Rattle.capture_lines.specs.Line.{value_meaning, line_meaning, of_state, of_captured, with_words, as_some, text_meaning}
use Rattle.capture_lines.specs.Made as made
use Rattle.capture_lines.specs.Plain as plain
use Rattle.capture_lines.specs.Tables as table
use Rattle.capture_lines.specs.Writing.{captured, line_object, line_text}
use Rattle.capture_lines.specs.declared.kind.LineKind.TheVariants as kinds
use Rattle.json_fold.proofs.Depth.{is_within}
use Rattle.capture_lines.proofs.Refusals.{kind_line}
use Rattle.capture_lines.proofs.WordsOfKinds.{is_kept, is_cut_behind, is_known}

-- the object of a state that has one everywhere
pub object_is : (s : State) (d : Data) → Some d ≡ state_written s → d ≡ line_object s
unfolding state_written line_object
object_is (ShaderModule s) d is = absurd cc
object_is (Sampler s) d is = cc
object_is (SetLayout s) d is = cc
object_is (PipelineLayout s) d is = cc
object_is (RenderPass s) d is = cc
object_is (Graphics s) d is = cc
object_is (Compute s) d is = cc

-- a state without an object is a shader module
pub is_module : (s : State) → None ≡ state_written s → ((m : modules.ShaderModule) → s ≡ ShaderModule m → ⊥) → ⊥
unfolding state_written
is_module (ShaderModule s) is other = other s refl
is_module (Sampler s) is other = absurd cc
is_module (SetLayout s) is other = absurd cc
is_module (PipelineLayout s) is other = absurd cc
is_module (RenderPass s) is other = absurd cc
is_module (Graphics s) is other = absurd cc
is_module (Compute s) is other = absurd cc

-- no object of a state nests deep
render_pass_flat : (s : passes.RenderPass) → depth (written (struct pass_table.render_pass) (pass_plain.render_pass s)) ≤ max_depth
unfolding pass_table.attachment pass_table.attachment_ref pass_table.subpass pass_table.subpass_dependency pass_table.render_pass
render_pass_flat s = is_within pass_table.render_pass (pass_plain.render_pass s) max_depth (lit≤ tt)

graphics_flat : (s : graphics.GraphicsPipeline) → depth (written (struct pipe_table.graphics_pipeline) (pipe_plain.graphics_pipeline s)) ≤ max_depth
unfolding pipe_table.map_entry pipe_table.spec_info pipe_table.stage pipe_table.vertex_binding pipe_table.vertex_attribute pipe_table.vertex_input pipe_table.input_assembly pipe_table.tessellation pipe_table.viewport pipe_table.scissor pipe_table.viewports pipe_table.rasterization pipe_table.multisample pipe_table.stencil_op pipe_table.depth_stencil pipe_table.blend_attachment pipe_table.color_blend pipe_table.dynamic pipe_table.graphics_pipeline pipe_table.compute_pipeline
graphics_flat s = is_within pipe_table.graphics_pipeline (pipe_plain.graphics_pipeline s) max_depth (lit≤ tt)

compute_flat : (s : compute.ComputePipeline) → depth (written (struct pipe_table.compute_pipeline) (pipe_plain.compute_pipeline s)) ≤ max_depth
unfolding pipe_table.map_entry pipe_table.spec_info pipe_table.stage pipe_table.vertex_binding pipe_table.vertex_attribute pipe_table.vertex_input pipe_table.input_assembly pipe_table.tessellation pipe_table.viewport pipe_table.scissor pipe_table.viewports pipe_table.rasterization pipe_table.multisample pipe_table.stencil_op pipe_table.depth_stencil pipe_table.blend_attachment pipe_table.color_blend pipe_table.dynamic pipe_table.graphics_pipeline pipe_table.compute_pipeline
compute_flat s = is_within pipe_table.compute_pipeline (pipe_plain.compute_pipeline s) max_depth (lit≤ tt)

pub is_flat : (s : State) → depth (line_object s) ≤ max_depth
unfolding state_written line_object table.captured_module basic_table.sampler basic_table.binding basic_table.set_layout basic_table.push_range basic_table.pipeline_layout
is_flat (ShaderModule s) = is_within table.captured_module (plain.captured_module (captured s)) max_depth (lit≤ tt)
is_flat (Sampler s) = is_within basic_table.sampler (basic_plain.sampler s) max_depth (lit≤ tt)
is_flat (SetLayout s) = is_within basic_table.set_layout (basic_plain.set_layout s) max_depth (lit≤ tt)
is_flat (PipelineLayout s) = is_within basic_table.pipeline_layout (basic_plain.pipeline_layout s) max_depth (lit≤ tt)
is_flat (RenderPass s) = render_pass_flat s
is_flat (Graphics s) = graphics_flat s
is_flat (Compute s) = compute_flat s

structure_again : {S : Type 0} (state : S → State) (fs : Fields) (plains : S → Plains fs) (makes : Plains fs → S) → ((x : S) → makes (plains x) ≡ x) → is_sound (struct fs) ≡ true → (s : S) → AreInRange fs (plains s) → of_state (read_as state fs makes (written (struct fs) (plains s)) []) ≡ Ok (state s)
structure_again state fs plains makes back sound s range =
    ap of_state (is_read state fs plains makes back (written (struct fs) (plains s)) [] s (written_is_read fs (plains s) [] sound range))

-- the object of a state that has one everywhere is read as the state
pub object_again : (s : State) (d : Data) → Some d ≡ state_written s → IsInStateRange s → value_meaning (kind_of_state s) d ≡ Ok s
unfolding state_written state_reading value_meaning kind_of_state IsInStateRange
object_again (ShaderModule s) d is range = absurd cc
object_again (Sampler s) d is range =
    let written_so : d ≡ written (struct basic_table.sampler) (basic_plain.sampler s) = cc in
    rw written_so (structure_again Sampler basic_table.sampler basic_plain.sampler basic_made.sampler basic_back.sampler basic_names.sampler s range)
object_again (SetLayout s) d is range =
    let written_so : d ≡ written (struct basic_table.set_layout) (basic_plain.set_layout s) = cc in
    rw written_so (structure_again SetLayout basic_table.set_layout basic_plain.set_layout basic_made.set_layout basic_back.set_layout basic_names.set_layout s range)
object_again (PipelineLayout s) d is range =
    let written_so : d ≡ written (struct basic_table.pipeline_layout) (basic_plain.pipeline_layout s) = cc in
    rw written_so (structure_again PipelineLayout basic_table.pipeline_layout basic_plain.pipeline_layout basic_made.pipeline_layout basic_back.pipeline_layout basic_names.pipeline_layout s range)
object_again (RenderPass s) d is range =
    let written_so : d ≡ written (struct pass_table.render_pass) (pass_plain.render_pass s) = cc in
    rw written_so (structure_again RenderPass pass_table.render_pass pass_plain.render_pass pass_made.render_pass pass_back.render_pass pass_names.render_pass s range)
object_again (Graphics s) d is range =
    let written_so : d ≡ written (struct pipe_table.graphics_pipeline) (pipe_plain.graphics_pipeline s) = cc in
    rw written_so (structure_again Graphics pipe_table.graphics_pipeline pipe_plain.graphics_pipeline pipe_made.graphics_pipeline pipe_back.graphics_pipeline pipe_names.graphics_pipeline s range)
object_again (Compute s) d is range =
    let written_so : d ≡ written (struct pipe_table.compute_pipeline) (pipe_plain.compute_pipeline s) = cc in
    rw written_so (structure_again Compute pipe_table.compute_pipeline pipe_plain.compute_pipeline pipe_made.compute_pipeline pipe_back.compute_pipeline pipe_names.compute_pipeline s range)

-- the line of a state is read as the state
pub line_again : (s : State) → parsed (compact_text (line_object s)) ≡ Ok (line_object s) → value_meaning (kind_of_state s) (line_object s) ≡ Ok s → line_meaning (line_text s) ≡ Ok (Some s)
unfolding line_text
line_again s text value =
    let kind = kind_of_state s in
    let json = compact_text (line_object s) in
    kind_line (word_of kind ++ 32 ∷ json) (word_of kind) json kind (is_kept kind json) (is_cut_behind kind json) (is_known kind)
    ∙ ap (λ answer. as_some (text_meaning kind answer)) text ∙ ap as_some value
