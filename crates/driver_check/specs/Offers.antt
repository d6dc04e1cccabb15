-- What a created state offers to those that refer to it.
use Rattle.std.specs.Prelude.{ℕ, List, [], length, Option, Some, None, slice_get}
use Rattle.std.specs.Option.{option_map}
use Rattle.spirv_check.specs.declared.shape.EntryPoint.{EntryPoint}
use Rattle.vk_pass.specs.declared.subpass.Subpass.{Subpass}
use Rattle.state_words.specs.declared.state.State.{State}
use Rattle.state_words.specs.declared.state.State.TheVariants.{Sampler, SetLayout, PipelineLayout, ShaderModule, RenderPass, Graphics, Compute}
use Rattle.driver_rules.specs.Modules.{entries_in}

-- the entry points of a module
abbrev pub entries_offered : State → List EntryPoint
entries_offered (Sampler s) = []
entries_offered (SetLayout s) = []
entries_offered (PipelineLayout s) = []
entries_offered (ShaderModule s) = entries_in s.code
entries_offered (RenderPass s) = []
entries_offered (Graphics s) = []
entries_offered (Compute s) = []

-- the subpasses of a render pass
abbrev pub subpasses_offered : State → List Subpass
subpasses_offered (Sampler s) = []
subpasses_offered (SetLayout s) = []
subpasses_offered (PipelineLayout s) = []
subpasses_offered (ShaderModule s) = []
subpasses_offered (RenderPass s) = s.subpasses
subpasses_offered (Graphics s) = []
subpasses_offered (Compute s) = []
