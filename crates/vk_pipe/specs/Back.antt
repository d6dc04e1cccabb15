-- What is made from a structure's plain value is the structure.
use Rattle.std.specs.Prelude.{◌≡◌, refl}
use Rattle.vk_form.specs.Back.{each_back, optional_back}
use Rattle.vk_pipe.specs.Tables as table
use Rattle.vk_pipe.specs.Plain as plain
use Rattle.vk_pipe.specs.Made as made
use Rattle.vk_pipe.specs.declared.stage.MapEntry.{MapEntry}
use Rattle.vk_pipe.specs.declared.stage.SpecInfo.{SpecInfo}
use Rattle.vk_pipe.specs.declared.stage.Stage.{Stage}
use Rattle.vk_pipe.specs.declared.vertex.VertexBinding.{VertexBinding}
use Rattle.vk_pipe.specs.declared.vertex.VertexAttribute.{VertexAttribute}
use Rattle.vk_pipe.specs.declared.vertex.VertexInput.{VertexInput}
use Rattle.vk_pipe.specs.declared.vertex.InputAssembly.{InputAssembly}
use Rattle.vk_pipe.specs.declared.vertex.Tessellation.{Tessellation}
use Rattle.vk_pipe.specs.declared.viewport.Viewport.{Viewport}
use Rattle.vk_pipe.specs.declared.viewport.Scissor.{Scissor}
use Rattle.vk_pipe.specs.declared.viewport.Viewports.{Viewports}
use Rattle.vk_pipe.specs.declared.raster.Rasterization.{Rasterization}
use Rattle.vk_pipe.specs.declared.raster.Multisample.{Multisample}
use Rattle.vk_pipe.specs.declared.depth.StencilOp.{StencilOp}
use Rattle.vk_pipe.specs.declared.depth.DepthStencil.{DepthStencil}
use Rattle.vk_pipe.specs.declared.blend.BlendAttachment.{BlendAttachment}
use Rattle.vk_pipe.specs.declared.blend.ColorBlend.{ColorBlend}
use Rattle.vk_pipe.specs.declared.blend.Dynamic.{Dynamic}
use Rattle.vk_pipe.specs.declared.graphics.GraphicsPipeline.{GraphicsPipeline}
use Rattle.vk_pipe.specs.declared.compute.ComputePipeline.{ComputePipeline}

pub map_entry : (s : MapEntry) → made.map_entry (plain.map_entry s) ≡ s
unfolding made.map_entry plain.map_entry table.map_entry
map_entry s = refl

pub spec_info : (s : SpecInfo) → made.spec_info (plain.spec_info s) ≡ s
unfolding made.spec_info plain.spec_info table.spec_info
spec_info s = rw (each_back made.map_entry plain.map_entry map_entry s.map_entries) refl

pub stage : (s : Stage) → made.stage (plain.stage s) ≡ s
unfolding made.stage plain.stage table.stage
stage s = rw (optional_back made.spec_info plain.spec_info spec_info s.specialization_info) refl

pub vertex_binding : (s : VertexBinding) → made.vertex_binding (plain.vertex_binding s) ≡ s
unfolding made.vertex_binding plain.vertex_binding table.vertex_binding
vertex_binding s = refl

pub vertex_attribute : (s : VertexAttribute) → made.vertex_attribute (plain.vertex_attribute s) ≡ s
unfolding made.vertex_attribute plain.vertex_attribute table.vertex_attribute
vertex_attribute s = refl

pub vertex_input : (s : VertexInput) → made.vertex_input (plain.vertex_input s) ≡ s
unfolding made.vertex_input plain.vertex_input table.vertex_input
vertex_input s = rw (each_back made.vertex_binding plain.vertex_binding vertex_binding s.vertex_binding_descriptions, each_back made.vertex_attribute plain.vertex_attribute vertex_attribute s.vertex_attribute_descriptions) refl

pub input_assembly : (s : InputAssembly) → made.input_assembly (plain.input_assembly s) ≡ s
unfolding made.input_assembly plain.input_assembly table.input_assembly
input_assembly s = refl

pub tessellation : (s : Tessellation) → made.tessellation (plain.tessellation s) ≡ s
unfolding made.tessellation plain.tessellation table.tessellation
tessellation s = refl

pub viewport : (s : Viewport) → made.viewport (plain.viewport s) ≡ s
unfolding made.viewport plain.viewport table.viewport
viewport s = refl

pub scissor : (s : Scissor) → made.scissor (plain.scissor s) ≡ s
unfolding made.scissor plain.scissor table.scissor
scissor s = refl

pub viewports : (s : Viewports) → made.viewports (plain.viewports s) ≡ s
unfolding made.viewports plain.viewports table.viewports
viewports s = rw (each_back made.viewport plain.viewport viewport s.viewports, each_back made.scissor plain.scissor scissor s.scissors) refl

pub rasterization : (s : Rasterization) → made.rasterization (plain.rasterization s) ≡ s
unfolding made.rasterization plain.rasterization table.rasterization
rasterization s = refl

pub multisample : (s : Multisample) → made.multisample (plain.multisample s) ≡ s
unfolding made.multisample plain.multisample table.multisample
multisample s = refl

pub stencil_op : (s : StencilOp) → made.stencil_op (plain.stencil_op s) ≡ s
unfolding made.stencil_op plain.stencil_op table.stencil_op
stencil_op s = refl

pub depth_stencil : (s : DepthStencil) → made.depth_stencil (plain.depth_stencil s) ≡ s
unfolding made.depth_stencil plain.depth_stencil table.depth_stencil
depth_stencil s = rw (stencil_op s.front, stencil_op s.back) refl

pub blend_attachment : (s : BlendAttachment) → made.blend_attachment (plain.blend_attachment s) ≡ s
unfolding made.blend_attachment plain.blend_attachment table.blend_attachment
blend_attachment s = refl

pub color_blend : (s : ColorBlend) → made.color_blend (plain.color_blend s) ≡ s
unfolding made.color_blend plain.color_blend table.color_blend
color_blend s = rw (each_back made.blend_attachment plain.blend_attachment blend_attachment s.attachments) refl

pub dynamic : (s : Dynamic) → made.dynamic (plain.dynamic s) ≡ s
unfolding made.dynamic plain.dynamic table.dynamic
dynamic s = refl

pub graphics_pipeline : (s : GraphicsPipeline) → made.graphics_pipeline (plain.graphics_pipeline s) ≡ s
unfolding made.graphics_pipeline plain.graphics_pipeline table.graphics_pipeline
graphics_pipeline s = rw (each_back made.stage plain.stage stage s.stages, optional_back made.vertex_input plain.vertex_input vertex_input s.vertex_input_state, optional_back made.input_assembly plain.input_assembly input_assembly s.input_assembly_state, optional_back made.tessellation plain.tessellation tessellation s.tessellation_state, optional_back made.viewports plain.viewports viewports s.viewport_state, optional_back made.rasterization plain.rasterization rasterization s.rasterization_state, optional_back made.multisample plain.multisample multisample s.multisample_state, optional_back made.depth_stencil plain.depth_stencil depth_stencil s.depth_stencil_state, optional_back made.color_blend plain.color_blend color_blend s.color_blend_state, optional_back made.dynamic plain.dynamic dynamic s.dynamic_state) refl

pub compute_pipeline : (s : ComputePipeline) → made.compute_pipeline (plain.compute_pipeline s) ≡ s
unfolding made.compute_pipeline plain.compute_pipeline table.compute_pipeline
compute_pipeline s = rw (stage s.stage) refl
