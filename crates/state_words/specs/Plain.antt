-- A state as a plain value of its kind's table.
use Rattle.std.specs.Prelude.{ℕ}
use Rattle.vk_form.specs.Shape.{Fields, Plains}
use Rattle.vk_basic.specs.Tables as basic_table
use Rattle.vk_basic.specs.Plain as basic
use Rattle.vk_pass.specs.Tables as pass_table
use Rattle.vk_pass.specs.Plain as pass
use Rattle.vk_pipe.specs.Tables as pipe_table
use Rattle.vk_pipe.specs.Plain as pipe
use Rattle.state_words.specs.declared.state.State.{State}
use Rattle.state_words.specs.declared.state.State.TheVariants.{Sampler, SetLayout, PipelineLayout, ShaderModule, RenderPass, Graphics, Compute}

abbrev pub tag_of : State → ℕ
tag_of (Sampler s) = 1
tag_of (SetLayout s) = 2
tag_of (PipelineLayout s) = 3
tag_of (ShaderModule s) = 4
tag_of (RenderPass s) = 5
tag_of (Graphics s) = 6
tag_of (Compute s) = 7

abbrev pub state_fields : State → Fields
state_fields (Sampler s) = basic_table.sampler
state_fields (SetLayout s) = basic_table.set_layout
state_fields (PipelineLayout s) = basic_table.pipeline_layout
state_fields (ShaderModule s) = basic_table.shader_module
state_fields (RenderPass s) = pass_table.render_pass
state_fields (Graphics s) = pipe_table.graphics_pipeline
state_fields (Compute s) = pipe_table.compute_pipeline

abbrev pub state_plain : (state : State) → Plains (state_fields state)
state_plain (Sampler s) = basic.sampler s
state_plain (SetLayout s) = basic.set_layout s
state_plain (PipelineLayout s) = basic.pipeline_layout s
state_plain (ShaderModule s) = basic.shader_module s
state_plain (RenderPass s) = pass.render_pass s
state_plain (Graphics s) = pipe.graphics_pipeline s
state_plain (Compute s) = pipe.compute_pipeline s
