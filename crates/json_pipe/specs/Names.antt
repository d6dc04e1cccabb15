-- The names of each table differ from each other and from `pNext`.
use Rattle.std.specs.Prelude.{◌≡◌, true, refl}
use Rattle.vk_form.specs.Shape.{struct}
use Rattle.json_fold.specs.Sound.{is_sound}
use Rattle.vk_pipe.specs.Tables as table

pub map_entry : is_sound (struct table.map_entry) ≡ true
unfolding table.map_entry
map_entry = refl

pub spec_info : is_sound (struct table.spec_info) ≡ true
unfolding table.spec_info table.map_entry
spec_info = refl

pub stage : is_sound (struct table.stage) ≡ true
unfolding table.stage table.map_entry table.spec_info
stage = refl

pub vertex_binding : is_sound (struct table.vertex_binding) ≡ true
unfolding table.vertex_binding
vertex_binding = refl

pub vertex_attribute : is_sound (struct table.vertex_attribute) ≡ true
unfolding table.vertex_attribute
vertex_attribute = refl

pub vertex_input : is_sound (struct table.vertex_input) ≡ true
unfolding table.vertex_input table.vertex_binding table.vertex_attribute
vertex_input = refl

pub input_assembly : is_sound (struct table.input_assembly) ≡ true
unfolding table.input_assembly
input_assembly = refl

pub tessellation : is_sound (struct table.tessellation) ≡ true
unfolding table.tessellation
tessellation = refl

pub viewport : is_sound (struct table.viewport) ≡ true
unfolding table.viewport
viewport = refl

pub scissor : is_sound (struct table.scissor) ≡ true
unfolding table.scissor
scissor = refl

pub viewports : is_sound (struct table.viewports) ≡ true
unfolding table.viewports table.viewport table.scissor
viewports = refl

pub rasterization : is_sound (struct table.rasterization) ≡ true
unfolding table.rasterization
rasterization = refl

pub multisample : is_sound (struct table.multisample) ≡ true
unfolding table.multisample
multisample = refl

pub stencil_op : is_sound (struct table.stencil_op) ≡ true
unfolding table.stencil_op
stencil_op = refl

pub depth_stencil : is_sound (struct table.depth_stencil) ≡ true
unfolding table.depth_stencil table.stencil_op
depth_stencil = refl

pub blend_attachment : is_sound (struct table.blend_attachment) ≡ true
unfolding table.blend_attachment
blend_attachment = refl

pub color_blend : is_sound (struct table.color_blend) ≡ true
unfolding table.color_blend table.blend_attachment
color_blend = refl

pub dynamic : is_sound (struct table.dynamic) ≡ true
unfolding table.dynamic
dynamic = refl

pub graphics_pipeline : is_sound (struct table.graphics_pipeline) ≡ true
unfolding table.graphics_pipeline table.map_entry table.spec_info table.stage table.vertex_binding table.vertex_attribute table.vertex_input table.input_assembly table.tessellation table.viewport table.scissor table.viewports table.rasterization table.multisample table.stencil_op table.depth_stencil table.blend_attachment table.color_blend table.dynamic
graphics_pipeline = refl

pub compute_pipeline : is_sound (struct table.compute_pipeline) ≡ true
unfolding table.compute_pipeline table.map_entry table.spec_info table.stage
compute_pipeline = refl
