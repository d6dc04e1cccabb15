-- The basic structures as plain values.
use Rattle.std.specs.Prelude.{map}
use Rattle.vk_form.specs.Shape.{Plains}
use Rattle.vk_basic.specs.Tables as table
use Rattle.vk_basic.specs.declared.sampler.Sampler.{Sampler}
use Rattle.vk_basic.specs.declared.set_layout.Binding.{Binding}
use Rattle.vk_basic.specs.declared.set_layout.SetLayout.{SetLayout}
use Rattle.vk_basic.specs.declared.pipeline_layout.PushRange.{PushRange}
use Rattle.vk_basic.specs.declared.pipeline_layout.PipelineLayout.{PipelineLayout}
use Rattle.vk_basic.specs.declared.shader_module.ShaderModule.{ShaderModule}

unfoldable pub sampler : Sampler → Plains table.sampler
unfolding table.sampler
sampler s = (
  s.flags,
  (
    s.mag_filter,
    (
      s.min_filter,
      (
        s.mipmap_mode,
        (
          s.address_mode_u,
          (
            s.address_mode_v,
            (
              s.address_mode_w,
              (
                s.mip_lod_bias,
                (
                  s.anisotropy_enable,
                  (
                    s.max_anisotropy,
                    (
                      s.compare_enable,
                      (
                        s.compare_op,
                        (
                          s.min_lod,
                          (s.max_lod, (s.border_color, (s.unnormalized_coordinates, tt))),
                        ),
                      ),
                    ),
                  ),
                ),
              ),
            ),
          ),
        ),
      ),
    ),
  ),
)

unfoldable pub binding : Binding → Plains table.binding
unfolding table.binding
binding s =
    (s.binding, (s.descriptor_type, (s.descriptor_count, (s.stage_flags, (s.immutable_samplers, tt)))))

unfoldable pub set_layout : SetLayout → Plains table.set_layout
unfolding table.set_layout
set_layout s =
    (s.flags, (map binding s.bindings, tt))

unfoldable pub push_range : PushRange → Plains table.push_range
unfolding table.push_range
push_range s =
    (s.stage_flags, (s.offset, (s.size, tt)))

unfoldable pub pipeline_layout : PipelineLayout → Plains table.pipeline_layout
unfolding table.pipeline_layout
pipeline_layout s =
    (s.flags, (s.set_layouts, (map push_range s.push_constant_ranges, tt)))

unfoldable pub shader_module : ShaderModule → Plains table.shader_module
unfolding table.shader_module
shader_module s =
    (s.flags, (s.code, tt))
