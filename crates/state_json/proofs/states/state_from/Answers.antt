use Rattle.vk_basic.specs.Tables as basic_table
use Rattle.vk_basic.specs.Plain as basic_plain
use Rattle.vk_basic.specs.Made as basic_made
use Rattle.vk_basic.specs.Back as basic_back
use Rattle.vk_pass.specs.Tables as pass_table
use Rattle.vk_pass.specs.Plain as pass_plain
use Rattle.vk_pass.specs.Made as pass_made
use Rattle.vk_pass.specs.Back as pass_back
use Rattle.vk_pipe.specs.Tables as pipe_table
use Rattle.vk_pipe.specs.Plain as pipe_plain
use Rattle.vk_pipe.specs.Made as pipe_made
use Rattle.vk_pipe.specs.Back as pipe_back
use Rattle.state_words.specs.declared.state.State.TheVariants.{Sampler, SetLayout, PipelineLayout, RenderPass, Graphics, Compute}
use Rattle.state_json.specs.States.{state_reading}
use Rattle.state_json.proofs.ReadAs.{is_read}
use Rattle.state_json.proofs.states.state_from.Goals as goal

pub returns-in_ok-from_json-in-Sampler : goal.returns-in_ok-from_json-in-Sampler
unfolding state_reading
returns-in_ok-from_json-in-Sampler c = rw c.in-Sampler.is (is_read Sampler basic_table.sampler basic_plain.sampler basic_made.sampler basic_back.sampler _ _ _ c.in_ok-from_json-in-Sampler.ensures)

pub returns-in_ok-from_json-in-SetLayout : goal.returns-in_ok-from_json-in-SetLayout
unfolding state_reading
returns-in_ok-from_json-in-SetLayout c = rw c.in-SetLayout.is (is_read SetLayout basic_table.set_layout basic_plain.set_layout basic_made.set_layout basic_back.set_layout _ _ _ c.in_ok-from_json-in-SetLayout.ensures)

pub returns-in_ok-from_json-in-PipelineLayout : goal.returns-in_ok-from_json-in-PipelineLayout
unfolding state_reading
returns-in_ok-from_json-in-PipelineLayout c = rw c.in-PipelineLayout.is (is_read PipelineLayout basic_table.pipeline_layout basic_plain.pipeline_layout basic_made.pipeline_layout basic_back.pipeline_layout _ _ _ c.in_ok-from_json-in-PipelineLayout.ensures)

pub returns-in_ok-from_json-in-RenderPass : goal.returns-in_ok-from_json-in-RenderPass
unfolding state_reading
returns-in_ok-from_json-in-RenderPass c = rw c.in-RenderPass.is (is_read RenderPass pass_table.render_pass pass_plain.render_pass pass_made.render_pass pass_back.render_pass _ _ _ c.in_ok-from_json-in-RenderPass.ensures)

pub returns-in_ok-from_json-in-Graphics : goal.returns-in_ok-from_json-in-Graphics
unfolding state_reading
returns-in_ok-from_json-in-Graphics c = rw c.in-Graphics.is (is_read Graphics pipe_table.graphics_pipeline pipe_plain.graphics_pipeline pipe_made.graphics_pipeline pipe_back.graphics_pipeline _ _ _ c.in_ok-from_json-in-Graphics.ensures)

pub returns-in_ok-from_json-in-Compute : goal.returns-in_ok-from_json-in-Compute
unfolding state_reading
returns-in_ok-from_json-in-Compute c = rw c.in-Compute.is (is_read Compute pipe_table.compute_pipeline pipe_plain.compute_pipeline pipe_made.compute_pipeline pipe_back.compute_pipeline _ _ _ c.in_ok-from_json-in-Compute.ensures)
