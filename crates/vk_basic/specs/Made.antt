-- The basic structures, made from plain values.
use Rattle.std.specs.Prelude.{map}
use Rattle.vk_form.specs.Shape.{Plains}
use Rattle.vk_basic.specs.Tables as table
use Rattle.vk_basic.specs.declared.sampler.Sampler.{Sampler}
use Rattle.vk_basic.specs.declared.set_layout.Binding.{Binding}
use Rattle.vk_basic.specs.declared.set_layout.SetLayout.{SetLayout}
use Rattle.vk_basic.specs.declared.pipeline_layout.PushRange.{PushRange}
use Rattle.vk_basic.specs.declared.pipeline_layout.PipelineLayout.{PipelineLayout}
use Rattle.vk_basic.specs.declared.shader_module.ShaderModule.{ShaderModule}

unfoldable pub sampler : Plains table.sampler → Sampler
unfolding table.sampler
sampler p =
    record {
      flags = p.0;
      mag_filter = p.1.0;
      min_filter = p.1.1.0;
      mipmap_mode = p.1.1.1.0;
      address_mode_u = p.1.1.1.1.0;
      address_mode_v = p.1.1.1.1.1.0;
      address_mode_w = p.1.1.1.1.1.1.0;
      mip_lod_bias = p.1.1.1.1.1.1.1.0;
      anisotropy_enable = p.1.1.1.1.1.1.1.1.0;
      max_anisotropy = p.1.1.1.1.1.1.1.1.1.0;
      compare_enable = p.1.1.1.1.1.1.1.1.1.1.0;
      compare_op = p.1.1.1.1.1.1.1.1.1.1.1.0;
      min_lod = p.1.1.1.1.1.1.1.1.1.1.1.1.0;
      max_lod = p.1.1.1.1.1.1.1.1.1.1.1.1.1.0;
      border_color = p.1.1.1.1.1.1.1.1.1.1.1.1.1.1.0;
      unnormalized_coordinates = p.1.1.1.1.1.1.1.1.1.1.1.1.1.1.1.0;
    }

unfoldable pub binding : Plains table.binding → Binding
unfolding table.binding
binding p =
    record {
      binding = p.0;
      descriptor_type = p.1.0;
      descriptor_count = p.1.1.0;
      stage_flags = p.1.1.1.0;
      immutable_samplers = p.1.1.1.1.0;
    }

unfoldable pub set_layout : Plains table.set_layout → SetLayout
unfolding table.set_layout
set_layout p =
    record { flags = p.0; bindings = map binding p.1.0 }

unfoldable pub push_range : Plains table.push_range → PushRange
unfolding table.push_range
push_range p =
    record { stage_flags = p.0; offset = p.1.0; size = p.1.1.0 }

unfoldable pub pipeline_layout : Plains table.pipeline_layout → PipelineLayout
unfolding table.pipeline_layout
pipeline_layout p =
    record { flags = p.0; set_layouts = p.1.0; push_constant_ranges = map push_range p.1.1.0 }

unfoldable pub shader_module : Plains table.shader_module → ShaderModule
unfolding table.shader_module
shader_module p =
    record { flags = p.0; code = p.1.0 }
