-- The rules of a graphics pipeline that need no other state.
use Rattle.std.specs.Prelude.{ℕ, ◌==◌, ◌&&◌, ◌||◌, not, Bool, true, List, length, map}
use Rattle.std.specs.Option.{option_map_or}
use Rattle.std.specs.List.{list_all, list_any}
use Rattle.vk_pipe.specs.declared.stage.Stage.{Stage}
use Rattle.vk_pipe.specs.declared.vertex.VertexBinding.{VertexBinding}
use Rattle.vk_pipe.specs.declared.vertex.VertexAttribute.{VertexAttribute}
use Rattle.vk_pipe.specs.declared.vertex.VertexInput.{VertexInput}
use Rattle.vk_pipe.specs.declared.graphics.GraphicsPipeline.{GraphicsPipeline}
use Rattle.driver_rules.specs.Numbers.{are_distinct}
use Rattle.driver_rules.specs.Stage.{has_data}

abbrev pub is_graphics_stage : ℕ → Bool
is_graphics_stage stage = (stage == 1) || (stage == 2) || (stage == 4) || (stage == 8) || (stage == 16)

abbrev pub has_graphics_stages : GraphicsPipeline → Bool
has_graphics_stages p = not (length p.stages == 0) && list_all (λ s. is_graphics_stage s.stage) p.stages

abbrev pub has_distinct_stages : GraphicsPipeline → Bool
has_distinct_stages p = are_distinct (map (λ s. s.stage) p.stages)

abbrev pub has_stage : ℕ → GraphicsPipeline → Bool
has_stage stage p = list_any (λ s. s.stage == stage) p.stages

abbrev pub stages_have_data : GraphicsPipeline → Bool
stages_have_data p = list_all has_data p.stages

-- tessellation is controlled and evaluated, or neither
abbrev pub tessellates_whole : GraphicsPipeline → Bool
tessellates_whole p = (has_stage 2 p && has_stage 4 p) || (not (has_stage 2 p) && not (has_stage 4 p))

-- a buffer is described under this number
abbrev pub is_described : List VertexBinding → ℕ → Bool
is_described bindings n = list_any (λ b. b.binding == n) bindings

-- the buffers of these attributes are
abbrev pub are_described : List VertexBinding → List VertexAttribute → Bool
are_described bindings attributes = list_all (λ a. is_described bindings a.binding) attributes

abbrev pub is_well_fed : VertexInput → Bool
is_well_fed input =
    are_distinct (map (λ a. a.location) input.vertex_attribute_descriptions)
    && are_described input.vertex_binding_descriptions input.vertex_attribute_descriptions

abbrev pub has_well_fed_vertices : GraphicsPipeline → Bool
has_well_fed_vertices p = option_map_or is_well_fed p.vertex_input_state true

-- as many attachments are blended as there are, if any
abbrev pub blends : ℕ → GraphicsPipeline → Bool
blends count p = option_map_or (λ blend. length blend.attachments == count) p.color_blend_state true

abbrev pub has_distinct_dynamics : GraphicsPipeline → Bool
has_distinct_dynamics p = option_map_or (λ dynamic. are_distinct dynamic.dynamic_states) p.dynamic_state true
