-- The objects of states, read and written.
use Rattle.std.specs.Prelude.{ℕ, List, Option, Some, None, Result, Ok, ⊤}
use Rattle.serde_json.specs.Data.{Data}
use Rattle.vk_form.specs.Shape.{struct, Fields, Plains}
use Rattle.json_fold.specs.Fault.{Fault, ◌>>=◌}
use Rattle.json_fold.specs.Reading.{reading}
use Rattle.json_fold.specs.Written.{written, AreInRange}
use Rattle.vk_basic.specs.Tables as basic_table
use Rattle.vk_basic.specs.Plain as basic_plain
use Rattle.vk_basic.specs.Made as basic_made
use Rattle.vk_pass.specs.Tables as pass_table
use Rattle.vk_pass.specs.Plain as pass_plain
use Rattle.vk_pass.specs.Made as pass_made
use Rattle.vk_pipe.specs.Tables as pipe_table
use Rattle.vk_pipe.specs.Plain as pipe_plain
use Rattle.vk_pipe.specs.Made as pipe_made
use Rattle.state_words.specs.declared.state.State.{State}
use Rattle.state_words.specs.declared.state.State.TheVariants.{Sampler, SetLayout, PipelineLayout, ShaderModule, RenderPass, Graphics, Compute}
use Rattle.state_json.specs.declared.kind.JsonKind as kind
use Rattle.state_json.specs.declared.kind.JsonKind.TheVariants as kinds

-- the structure that a value is read as, as a state
abbrev pub read_as : {S : Type 0} → (S → State) → (fs : Fields) → (Plains fs → S) → Data → List ℕ → Result State Fault
read_as state fs made value path = reading (struct fs) value path >>= λ x. Ok (state (made x))

unfoldable pub state_reading : kind.JsonKind → Data → List ℕ → Result State Fault
state_reading kinds.Sampler value path = read_as Sampler basic_table.sampler basic_made.sampler value path
state_reading kinds.SetLayout value path = read_as SetLayout basic_table.set_layout basic_made.set_layout value path
state_reading kinds.PipelineLayout value path = read_as PipelineLayout basic_table.pipeline_layout basic_made.pipeline_layout value path
state_reading kinds.RenderPass value path = read_as RenderPass pass_table.render_pass pass_made.render_pass value path
state_reading kinds.Graphics value path = read_as Graphics pipe_table.graphics_pipeline pipe_made.graphics_pipeline value path
state_reading kinds.Compute value path = read_as Compute pipe_table.compute_pipeline pipe_made.compute_pipeline value path

-- the object of a state, but of a shader module
unfoldable pub state_written : State → Option Data
state_written (ShaderModule s) = None
state_written (Sampler s) = Some (written (struct basic_table.sampler) (basic_plain.sampler s))
state_written (SetLayout s) = Some (written (struct basic_table.set_layout) (basic_plain.set_layout s))
state_written (PipelineLayout s) = Some (written (struct basic_table.pipeline_layout) (basic_plain.pipeline_layout s))
state_written (RenderPass s) = Some (written (struct pass_table.render_pass) (pass_plain.render_pass s))
state_written (Graphics s) = Some (written (struct pipe_table.graphics_pipeline) (pipe_plain.graphics_pipeline s))
state_written (Compute s) = Some (written (struct pipe_table.compute_pipeline) (pipe_plain.compute_pipeline s))

-- Its numbers, texts and bytes are ones that a program holds.
unfoldable pub IsInStateRange : State → Type 0
IsInStateRange (ShaderModule s) = ⊤
IsInStateRange (Sampler s) = AreInRange basic_table.sampler (basic_plain.sampler s)
IsInStateRange (SetLayout s) = AreInRange basic_table.set_layout (basic_plain.set_layout s)
IsInStateRange (PipelineLayout s) = AreInRange basic_table.pipeline_layout (basic_plain.pipeline_layout s)
IsInStateRange (RenderPass s) = AreInRange pass_table.render_pass (pass_plain.render_pass s)
IsInStateRange (Graphics s) = AreInRange pipe_table.graphics_pipeline (pipe_plain.graphics_pipeline s)
IsInStateRange (Compute s) = AreInRange pipe_table.compute_pipeline (pipe_plain.compute_pipeline s)
