-- Pipelines, made from plain values.
use Rattle.std.specs.Prelude.{map}
use Rattle.std.specs.Option.{option_map}
use Rattle.vk_form.specs.Shape.{Plains}
use Rattle.vk_pipe.specs.Tables as table
use Rattle.vk_pipe.specs.declared.stage.MapEntry.{MapEntry}
use Rattle.vk_pipe.specs.declared.stage.SpecInfo.{SpecInfo}
use Rattle.vk_pipe.specs.declared.stage.Stage.{Stage}
use Rattle.vk_pipe.specs.declared.vertex.VertexBinding.{VertexBinding}
use Rattle.vk_pipe.specs.declared.vertex.VertexAttribute.{VertexAttribute}
use Rattle.vk_pipe.specs.declared.vertex.VertexInput.{VertexInput}
use Rattle.vk_pipe.specs.declared.vertex.InputAssembly.{InputAssembly}
use Rattle.vk_pipe.specs.declared.vertex.Tessellation.{Tessellation}
use Rattle.vk_pipe.specs.declared.viewport.Viewport.{Viewport}
use Rattle.vk_pipe.specs.declared.viewport.Scissor.{Scissor}
use Rattle.vk_pipe.specs.declared.viewport.Viewports.{Viewports}
use Rattle.vk_pipe.specs.declared.raster.Rasterization.{Rasterization}
use Rattle.vk_pipe.specs.declared.raster.Multisample.{Multisample}
use Rattle.vk_pipe.specs.declared.depth.StencilOp.{StencilOp}
use Rattle.vk_pipe.specs.declared.depth.DepthStencil.{DepthStencil}
use Rattle.vk_pipe.specs.declared.blend.BlendAttachment.{BlendAttachment}
use Rattle.vk_pipe.specs.declared.blend.ColorBlend.{ColorBlend}
use Rattle.vk_pipe.specs.declared.blend.Dynamic.{Dynamic}
use Rattle.vk_pipe.specs.declared.graphics.GraphicsPipeline.{GraphicsPipeline}
use Rattle.vk_pipe.specs.declared.compute.ComputePipeline.{ComputePipeline}

unfoldable pub map_entry : Plains table.map_entry → MapEntry
unfolding table.map_entry
map_entry p =
    record { constant_id = p.0; offset = p.1.0; size = p.1.1.0 }

unfoldable pub spec_info : Plains table.spec_info → SpecInfo
unfolding table.spec_info
spec_info p =
    record { map_entries = map map_entry p.0; data_bytes = p.1.0 }

unfoldable pub stage : Plains table.stage → Stage
unfolding table.stage
stage p =
    record {
      flags = p.0;
      stage = p.1.0;
      «module» = p.1.1.0;
      name = p.1.1.1.0;
      specialization_info = option_map spec_info p.1.1.1.1.0;
    }

unfoldable pub vertex_binding : Plains table.vertex_binding → VertexBinding
unfolding table.vertex_binding
vertex_binding p =
    record { binding = p.0; stride = p.1.0; input_rate = p.1.1.0 }

unfoldable pub vertex_attribute : Plains table.vertex_attribute → VertexAttribute
unfolding table.vertex_attribute
vertex_attribute p =
    record { location = p.0; binding = p.1.0; format = p.1.1.0; offset = p.1.1.1.0 }

unfoldable pub vertex_input : Plains table.vertex_input → VertexInput
unfolding table.vertex_input
vertex_input p =
    record {
      flags = p.0;
      vertex_binding_descriptions = map vertex_binding p.1.0;
      vertex_attribute_descriptions = map vertex_attribute p.1.1.0;
    }

unfoldable pub input_assembly : Plains table.input_assembly → InputAssembly
unfolding table.input_assembly
input_assembly p =
    record { flags = p.0; topology = p.1.0; primitive_restart_enable = p.1.1.0 }

unfoldable pub tessellation : Plains table.tessellation → Tessellation
unfolding table.tessellation
tessellation p =
    record { flags = p.0; patch_control_points = p.1.0 }

unfoldable pub viewport : Plains table.viewport → Viewport
unfolding table.viewport
viewport p =
    record {
      x = p.0;
      y = p.1.0;
      width = p.1.1.0;
      height = p.1.1.1.0;
      min_depth = p.1.1.1.1.0;
      max_depth = p.1.1.1.1.1.0;
    }

unfoldable pub scissor : Plains table.scissor → Scissor
unfolding table.scissor
scissor p =
    record { x = p.0; y = p.1.0; width = p.1.1.0; height = p.1.1.1.0 }

unfoldable pub viewports : Plains table.viewports → Viewports
unfolding table.viewports
viewports p =
    record {
      flags = p.0;
      viewport_count = p.1.0;
      viewports = map viewport p.1.1.0;
      scissor_count = p.1.1.1.0;
      scissors = map scissor p.1.1.1.1.0;
    }

unfoldable pub rasterization : Plains table.rasterization → Rasterization
unfolding table.rasterization
rasterization p =
    record {
      flags = p.0;
      depth_clamp_enable = p.1.0;
      rasterizer_discard_enable = p.1.1.0;
      polygon_mode = p.1.1.1.0;
      cull_mode = p.1.1.1.1.0;
      front_face = p.1.1.1.1.1.0;
      depth_bias_enable = p.1.1.1.1.1.1.0;
      depth_bias_constant_factor = p.1.1.1.1.1.1.1.0;
      depth_bias_clamp = p.1.1.1.1.1.1.1.1.0;
      depth_bias_slope_factor = p.1.1.1.1.1.1.1.1.1.0;
      line_width = p.1.1.1.1.1.1.1.1.1.1.0;
    }

unfoldable pub multisample : Plains table.multisample → Multisample
unfolding table.multisample
multisample p =
    record {
      flags = p.0;
      rasterization_samples = p.1.0;
      sample_shading_enable = p.1.1.0;
      min_sample_shading = p.1.1.1.0;
      sample_mask = p.1.1.1.1.0;
      alpha_to_coverage_enable = p.1.1.1.1.1.0;
      alpha_to_one_enable = p.1.1.1.1.1.1.0;
    }

unfoldable pub stencil_op : Plains table.stencil_op → StencilOp
unfolding table.stencil_op
stencil_op p =
    record {
      fail_op = p.0;
      pass_op = p.1.0;
      depth_fail_op = p.1.1.0;
      compare_op = p.1.1.1.0;
      compare_mask = p.1.1.1.1.0;
      write_mask = p.1.1.1.1.1.0;
      reference = p.1.1.1.1.1.1.0;
    }

unfoldable pub depth_stencil : Plains table.depth_stencil → DepthStencil
unfolding table.depth_stencil
depth_stencil p =
    record {
      flags = p.0;
      depth_test_enable = p.1.0;
      depth_write_enable = p.1.1.0;
      depth_compare_op = p.1.1.1.0;
      depth_bounds_test_enable = p.1.1.1.1.0;
      stencil_test_enable = p.1.1.1.1.1.0;
      front = stencil_op p.1.1.1.1.1.1.0;
      back = stencil_op p.1.1.1.1.1.1.1.0;
      min_depth_bounds = p.1.1.1.1.1.1.1.1.0;
      max_depth_bounds = p.1.1.1.1.1.1.1.1.1.0;
    }

unfoldable pub blend_attachment : Plains table.blend_attachment → BlendAttachment
unfolding table.blend_attachment
blend_attachment p =
    record {
      blend_enable = p.0;
      src_color_blend_factor = p.1.0;
      dst_color_blend_factor = p.1.1.0;
      color_blend_op = p.1.1.1.0;
      src_alpha_blend_factor = p.1.1.1.1.0;
      dst_alpha_blend_factor = p.1.1.1.1.1.0;
      alpha_blend_op = p.1.1.1.1.1.1.0;
      color_write_mask = p.1.1.1.1.1.1.1.0;
    }

unfoldable pub color_blend : Plains table.color_blend → ColorBlend
unfolding table.color_blend
color_blend p =
    record {
      flags = p.0;
      logic_op_enable = p.1.0;
      logic_op = p.1.1.0;
      attachments = map blend_attachment p.1.1.1.0;
      blend_constants0 = p.1.1.1.1.0.0;
      blend_constants1 = p.1.1.1.1.0.1.0;
      blend_constants2 = p.1.1.1.1.0.1.1.0;
      blend_constants3 = p.1.1.1.1.0.1.1.1;
    }

unfoldable pub dynamic : Plains table.dynamic → Dynamic
unfolding table.dynamic
dynamic p =
    record { flags = p.0; dynamic_states = p.1.0 }

unfoldable pub graphics_pipeline : Plains table.graphics_pipeline → GraphicsPipeline
unfolding table.graphics_pipeline
graphics_pipeline p =
    record {
      flags = p.0;
      stages = map stage p.1.0;
      vertex_input_state = option_map vertex_input p.1.1.0;
      input_assembly_state = option_map input_assembly p.1.1.1.0;
      tessellation_state = option_map tessellation p.1.1.1.1.0;
      viewport_state = option_map viewports p.1.1.1.1.1.0;
      rasterization_state = option_map rasterization p.1.1.1.1.1.1.0;
      multisample_state = option_map multisample p.1.1.1.1.1.1.1.0;
      depth_stencil_state = option_map depth_stencil p.1.1.1.1.1.1.1.1.0;
      color_blend_state = option_map color_blend p.1.1.1.1.1.1.1.1.1.0;
      dynamic_state = option_map dynamic p.1.1.1.1.1.1.1.1.1.1.0;
      layout = p.1.1.1.1.1.1.1.1.1.1.1.0;
      render_pass = p.1.1.1.1.1.1.1.1.1.1.1.1.0;
      subpass = p.1.1.1.1.1.1.1.1.1.1.1.1.1.0;
      base_pipeline_handle = p.1.1.1.1.1.1.1.1.1.1.1.1.1.1.0;
    }

unfoldable pub compute_pipeline : Plains table.compute_pipeline → ComputePipeline
unfolding table.compute_pipeline
compute_pipeline p =
    record { flags = p.0; stage = stage p.1.0; layout = p.1.1.0; base_pipeline_handle = p.1.1.1.0 }
