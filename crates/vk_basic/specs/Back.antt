-- What is made from a structure's plain value is the structure.
use Rattle.std.specs.Prelude.{◌≡◌, refl}
use Rattle.vk_form.specs.Back.{each_back}
use Rattle.vk_basic.specs.Tables as table
use Rattle.vk_basic.specs.Plain as plain
use Rattle.vk_basic.specs.Made as made
use Rattle.vk_basic.specs.declared.sampler.Sampler.{Sampler}
use Rattle.vk_basic.specs.declared.set_layout.Binding.{Binding}
use Rattle.vk_basic.specs.declared.set_layout.SetLayout.{SetLayout}
use Rattle.vk_basic.specs.declared.pipeline_layout.PushRange.{PushRange}
use Rattle.vk_basic.specs.declared.pipeline_layout.PipelineLayout.{PipelineLayout}
use Rattle.vk_basic.specs.declared.shader_module.ShaderModule.{ShaderModule}

pub sampler : (s : Sampler) → made.sampler (plain.sampler s) ≡ s
unfolding made.sampler plain.sampler table.sampler
sampler s = refl

pub binding : (s : Binding) → made.binding (plain.binding s) ≡ s
unfolding made.binding plain.binding table.binding
binding s = refl

pub set_layout : (s : SetLayout) → made.set_layout (plain.set_layout s) ≡ s
unfolding made.set_layout plain.set_layout table.set_layout
set_layout s = rw (each_back made.binding plain.binding binding s.bindings) refl

pub push_range : (s : PushRange) → made.push_range (plain.push_range s) ≡ s
unfolding made.push_range plain.push_range table.push_range
push_range s = refl

pub pipeline_layout : (s : PipelineLayout) → made.pipeline_layout (plain.pipeline_layout s) ≡ s
unfolding made.pipeline_layout plain.pipeline_layout table.pipeline_layout
pipeline_layout s = rw (each_back made.push_range plain.push_range push_range s.push_constant_ranges) refl

pub shader_module : (s : ShaderModule) → made.shader_module (plain.shader_module s) ≡ s
unfolding made.shader_module plain.shader_module table.shader_module
shader_module s = refl
