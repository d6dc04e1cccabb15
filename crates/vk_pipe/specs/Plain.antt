-- Pipelines as plain values.
use Rattle.std.specs.Prelude.{map}
use Rattle.std.specs.Option.{option_map}
use Rattle.vk_form.specs.Shape.{Plains}
use Rattle.vk_pipe.specs.Tables as table
use Rattle.vk_pipe.specs.declared.stage.MapEntry.{MapEntry}
use Rattle.vk_pipe.specs.declared.stage.SpecInfo.{SpecInfo}
use Rattle.vk_pipe.specs.declared.stage.Stage.{Stage}
use Rattle.vk_pipe.specs.declared.vertex.VertexBinding.{VertexBinding}
use Rattle.vk_pipe.specs.declared.vertex.VertexAttribute.{VertexAttribute}
use Rattle.vk_pipe.specs.declared.vertex.VertexInput.{VertexInput}
use Rattle.vk_pipe.specs.declared.vertex.InputAssembly.{InputAssembly}
use Rattle.vk_pipe.specs.declared.vertex.Tessellation.{Tessellation}
use Rattle.vk_pipe.specs.declared.viewport.Viewport.{Viewport}
use Rattle.vk_pipe.specs.declared.viewport.Scissor.{Scissor}
use Rattle.vk_pipe.specs.declared.viewport.Viewports.{Viewports}
use Rattle.vk_pipe.specs.declared.raster.Rasterization.{Rasterization}
use Rattle.vk_pipe.specs.declared.raster.Multisample.{Multisample}
use Rattle.vk_pipe.specs.declared.depth.StencilOp.{StencilOp}
use Rattle.vk_pipe.specs.declared.depth.DepthStencil.{DepthStencil}
use Rattle.vk_pipe.specs.declared.blend.BlendAttachment.{BlendAttachment}
use Rattle.vk_pipe.specs.declared.blend.ColorBlend.{ColorBlend}
use Rattle.vk_pipe.specs.declared.blend.Dynamic.{Dynamic}
use Rattle.vk_pipe.specs.declared.graphics.GraphicsPipeline.{GraphicsPipeline}
use Rattle.vk_pipe.specs.declared.compute.ComputePipeline.{ComputePipeline}

unfoldable pub map_entry : MapEntry → Plains table.map_entry
unfolding table.map_entry
map_entry s =
    (s.constant_id, (s.offset, (s.size, tt)))

unfoldable pub spec_info : SpecInfo → Plains table.spec_info
unfolding table.spec_info
spec_info s =
    (map map_entry s.map_entries, (s.data_bytes, tt))

unfoldable pub stage : Stage → Plains table.stage
unfolding table.stage
stage s =
    (s.flags, (s.stage, (s.module, (s.name, (option_map spec_info s.specialization_info, tt)))))

unfoldable pub vertex_binding : VertexBinding → Plains table.vertex_binding
unfolding table.vertex_binding
vertex_binding s =
    (s.binding, (s.stride, (s.input_rate, tt)))

unfoldable pub vertex_attribute : VertexAttribute → Plains table.vertex_attribute
unfolding table.vertex_attribute
vertex_attribute s =
    (s.location, (s.binding, (s.format, (s.offset, tt))))

unfoldable pub vertex_input : VertexInput → Plains table.vertex_input
unfolding table.vertex_input
vertex_input s = (
  s.flags,
  (
    map vertex_binding s.vertex_binding_descriptions,
    (
      map vertex_attribute s.vertex_attribute_descriptions,
      tt,
    ),
  ),
)

unfoldable pub input_assembly : InputAssembly → Plains table.input_assembly
unfolding table.input_assembly
input_assembly s =
    (s.flags, (s.topology, (s.primitive_restart_enable, tt)))

unfoldable pub tessellation : Tessellation → Plains table.tessellation
unfolding table.tessellation
tessellation s =
    (s.flags, (s.patch_control_points, tt))

unfoldable pub viewport : Viewport → Plains table.viewport
unfolding table.viewport
viewport s =
    (s.x, (s.y, (s.width, (s.height, (s.min_depth, (s.max_depth, tt))))))

unfoldable pub scissor : Scissor → Plains table.scissor
unfolding table.scissor
scissor s =
    (s.x, (s.y, (s.width, (s.height, tt))))

unfoldable pub viewports : Viewports → Plains table.viewports
unfolding table.viewports
viewports s =
    (s.flags, (s.viewport_count, (map viewport s.viewports, (s.scissor_count, (map scissor s.scissors, tt)))))

unfoldable pub rasterization : Rasterization → Plains table.rasterization
unfolding table.rasterization
rasterization s = (
  s.flags,
  (
    s.depth_clamp_enable,
    (
      s.rasterizer_discard_enable,
      (
        s.polygon_mode,
        (
          s.cull_mode,
          (
            s.front_face,
            (
              s.depth_bias_enable,
              (
                s.depth_bias_constant_factor,
                (
                  s.depth_bias_clamp,
                  (
                    s.depth_bias_slope_factor,
                    (s.line_width, tt),
                  ),
                ),
              ),
            ),
          ),
        ),
      ),
    ),
  ),
)

unfoldable pub multisample : Multisample → Plains table.multisample
unfolding table.multisample
multisample s = (
  s.flags,
  (
    s.rasterization_samples,
    (
      s.sample_shading_enable,
      (
        s.min_sample_shading,
        (
          s.sample_mask,
          (s.alpha_to_coverage_enable, (s.alpha_to_one_enable, tt)),
        ),
      ),
    ),
  ),
)

unfoldable pub stencil_op : StencilOp → Plains table.stencil_op
unfolding table.stencil_op
stencil_op s =
    (s.fail_op, (s.pass_op, (s.depth_fail_op, (s.compare_op, (s.compare_mask, (s.write_mask, (s.reference, tt)))))))

unfoldable pub depth_stencil : DepthStencil → Plains table.depth_stencil
unfolding table.depth_stencil
depth_stencil s = (
  s.flags,
  (
    s.depth_test_enable,
    (
      s.depth_write_enable,
      (
        s.depth_compare_op,
        (
          s.depth_bounds_test_enable,
          (
            s.stencil_test_enable,
            (
              stencil_op s.front,
              (
                stencil_op s.back,
                (
                  s.min_depth_bounds,
                  (
                    s.max_depth_bounds,
                    tt,
                  ),
                ),
              ),
            ),
          ),
        ),
      ),
    ),
  ),
)

unfoldable pub blend_attachment : BlendAttachment → Plains table.blend_attachment
unfolding table.blend_attachment
blend_attachment s = (
  s.blend_enable,
  (
    s.src_color_blend_factor,
    (
      s.dst_color_blend_factor,
      (
        s.color_blend_op,
        (s.src_alpha_blend_factor, (s.dst_alpha_blend_factor, (s.alpha_blend_op, (s.color_write_mask, tt)))),
      ),
    ),
  ),
)

unfoldable pub color_blend : ColorBlend → Plains table.color_blend
unfolding table.color_blend
color_blend s = (
  s.flags,
  (
    s.logic_op_enable,
    (
      s.logic_op,
      (
        map blend_attachment s.attachments,
        ((s.blend_constants0, (s.blend_constants1, (s.blend_constants2, s.blend_constants3))), tt),
      ),
    ),
  ),
)

unfoldable pub dynamic : Dynamic → Plains table.dynamic
unfolding table.dynamic
dynamic s =
    (s.flags, (s.dynamic_states, tt))

unfoldable pub graphics_pipeline : GraphicsPipeline → Plains table.graphics_pipeline
unfolding table.graphics_pipeline
graphics_pipeline s = (
  s.flags,
  (
    map stage s.stages,
    (
      option_map vertex_input s.vertex_input_state,
      (
        option_map input_assembly s.input_assembly_state,
        (
          option_map tessellation s.tessellation_state,
          (
            option_map viewports s.viewport_state,
            (
              option_map rasterization s.rasterization_state,
              (
                option_map multisample s.multisample_state,
                (
                  option_map depth_stencil s.depth_stencil_state,
                  (
                    option_map color_blend s.color_blend_state,
                    (
                      option_map dynamic s.dynamic_state,
                      (
                        s.layout,
                        (
                          s.render_pass,
                          (s.subpass, (s.base_pipeline_handle, tt)),
                        ),
                      ),
                    ),
                  ),
                ),
              ),
            ),
          ),
        ),
      ),
    ),
  ),
)

unfoldable pub compute_pipeline : ComputePipeline → Plains table.compute_pipeline
unfolding table.compute_pipeline
compute_pipeline s =
    (s.flags, (stage s.stage, (s.layout, (s.base_pipeline_handle, tt))))
