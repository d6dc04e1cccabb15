-- The plain value of a pipeline that is made from a plain value is that value.
use Rattle.std.proofs.Common.{◌≡◌, refl}
use Rattle.vk_form.specs.Shape.{Plains}
use Rattle.vk_form.specs.Back.{each_back, optional_back}
use Rattle.vk_pipe.specs.Tables as table
use Rattle.vk_pipe.specs.Plain as plain
use Rattle.vk_pipe.specs.Made as made

pub map_entry : (p : Plains table.map_entry) → plain.map_entry (made.map_entry p) ≡ p
unfolding made.map_entry plain.map_entry table.map_entry
map_entry p = refl

pub spec_info : (p : Plains table.spec_info) → plain.spec_info (made.spec_info p) ≡ p
unfolding made.spec_info plain.spec_info table.spec_info
spec_info p = rw (each_back plain.map_entry made.map_entry map_entry p.0) refl

pub stage : (p : Plains table.stage) → plain.stage (made.stage p) ≡ p
unfolding made.stage plain.stage table.stage
stage p = rw (optional_back plain.spec_info made.spec_info spec_info p.1.1.1.1.0) refl

pub vertex_binding : (p : Plains table.vertex_binding) → plain.vertex_binding (made.vertex_binding p) ≡ p
unfolding made.vertex_binding plain.vertex_binding table.vertex_binding
vertex_binding p = refl

pub vertex_attribute : (p : Plains table.vertex_attribute) → plain.vertex_attribute (made.vertex_attribute p) ≡ p
unfolding made.vertex_attribute plain.vertex_attribute table.vertex_attribute
vertex_attribute p = refl

pub vertex_input : (p : Plains table.vertex_input) → plain.vertex_input (made.vertex_input p) ≡ p
unfolding made.vertex_input plain.vertex_input table.vertex_input
vertex_input p = rw (each_back plain.vertex_binding made.vertex_binding vertex_binding p.1.0, each_back plain.vertex_attribute made.vertex_attribute vertex_attribute p.1.1.0) refl

pub input_assembly : (p : Plains table.input_assembly) → plain.input_assembly (made.input_assembly p) ≡ p
unfolding made.input_assembly plain.input_assembly table.input_assembly
input_assembly p = refl

pub tessellation : (p : Plains table.tessellation) → plain.tessellation (made.tessellation p) ≡ p
unfolding made.tessellation plain.tessellation table.tessellation
tessellation p = refl

pub viewport : (p : Plains table.viewport) → plain.viewport (made.viewport p) ≡ p
unfolding made.viewport plain.viewport table.viewport
viewport p = refl

pub scissor : (p : Plains table.scissor) → plain.scissor (made.scissor p) ≡ p
unfolding made.scissor plain.scissor table.scissor
scissor p = refl

pub viewports : (p : Plains table.viewports) → plain.viewports (made.viewports p) ≡ p
unfolding made.viewports plain.viewports table.viewports
viewports p = rw (each_back plain.viewport made.viewport viewport p.1.1.0, each_back plain.scissor made.scissor scissor p.1.1.1.1.0) refl

pub rasterization : (p : Plains table.rasterization) → plain.rasterization (made.rasterization p) ≡ p
unfolding made.rasterization plain.rasterization table.rasterization
rasterization p = refl

pub multisample : (p : Plains table.multisample) → plain.multisample (made.multisample p) ≡ p
unfolding made.multisample plain.multisample table.multisample
multisample p = refl

pub stencil_op : (p : Plains table.stencil_op) → plain.stencil_op (made.stencil_op p) ≡ p
unfolding made.stencil_op plain.stencil_op table.stencil_op
stencil_op p = refl

pub depth_stencil : (p : Plains table.depth_stencil) → plain.depth_stencil (made.depth_stencil p) ≡ p
unfolding made.depth_stencil plain.depth_stencil table.depth_stencil
depth_stencil p = rw (stencil_op p.1.1.1.1.1.1.0, stencil_op p.1.1.1.1.1.1.1.0) refl

pub blend_attachment : (p : Plains table.blend_attachment) → plain.blend_attachment (made.blend_attachment p) ≡ p
unfolding made.blend_attachment plain.blend_attachment table.blend_attachment
blend_attachment p = refl

pub color_blend : (p : Plains table.color_blend) → plain.color_blend (made.color_blend p) ≡ p
unfolding made.color_blend plain.color_blend table.color_blend
color_blend p = rw (each_back plain.blend_attachment made.blend_attachment blend_attachment p.1.1.1.0) refl

pub dynamic : (p : Plains table.dynamic) → plain.dynamic (made.dynamic p) ≡ p
unfolding made.dynamic plain.dynamic table.dynamic
dynamic p = refl

pub graphics_pipeline : (p : Plains table.graphics_pipeline) → plain.graphics_pipeline (made.graphics_pipeline p) ≡ p
unfolding made.graphics_pipeline plain.graphics_pipeline table.graphics_pipeline
graphics_pipeline p = rw (each_back plain.stage made.stage stage p.1.0, optional_back plain.vertex_input made.vertex_input vertex_input p.1.1.0, optional_back plain.input_assembly made.input_assembly input_assembly p.1.1.1.0, optional_back plain.tessellation made.tessellation tessellation p.1.1.1.1.0, optional_back plain.viewports made.viewports viewports p.1.1.1.1.1.0, optional_back plain.rasterization made.rasterization rasterization p.1.1.1.1.1.1.0, optional_back plain.multisample made.multisample multisample p.1.1.1.1.1.1.1.0, optional_back plain.depth_stencil made.depth_stencil depth_stencil p.1.1.1.1.1.1.1.1.0, optional_back plain.color_blend made.color_blend color_blend p.1.1.1.1.1.1.1.1.1.0, optional_back plain.dynamic made.dynamic dynamic p.1.1.1.1.1.1.1.1.1.1.0) refl

pub compute_pipeline : (p : Plains table.compute_pipeline) → plain.compute_pipeline (made.compute_pipeline p) ≡ p
unfolding made.compute_pipeline plain.compute_pipeline table.compute_pipeline
compute_pipeline p = rw (stage p.1.0) refl
