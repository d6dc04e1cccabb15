-- The plain value of a basic structure that is made from a plain value is that value.
use Rattle.std.proofs.Common.{◌≡◌, refl}
use Rattle.vk_form.specs.Shape.{Plains}
use Rattle.vk_form.specs.Back.{each_back}
use Rattle.vk_basic.specs.Tables as table
use Rattle.vk_basic.specs.Plain as plain
use Rattle.vk_basic.specs.Made as made

pub sampler : (p : Plains table.sampler) → plain.sampler (made.sampler p) ≡ p
unfolding made.sampler plain.sampler table.sampler
sampler p = refl

pub binding : (p : Plains table.binding) → plain.binding (made.binding p) ≡ p
unfolding made.binding plain.binding table.binding
binding p = refl

pub set_layout : (p : Plains table.set_layout) → plain.set_layout (made.set_layout p) ≡ p
unfolding made.set_layout plain.set_layout table.set_layout
set_layout p = rw (each_back plain.binding made.binding binding p.1.0) refl

pub push_range : (p : Plains table.push_range) → plain.push_range (made.push_range p) ≡ p
unfolding made.push_range plain.push_range table.push_range
push_range p = refl

pub pipeline_layout : (p : Plains table.pipeline_layout) → plain.pipeline_layout (made.pipeline_layout p) ≡ p
unfolding made.pipeline_layout plain.pipeline_layout table.pipeline_layout
pipeline_layout p = rw (each_back plain.push_range made.push_range push_range p.1.1.0) refl

pub shader_module : (p : Plains table.shader_module) → plain.shader_module (made.shader_module p) ≡ p
unfolding made.shader_module plain.shader_module table.shader_module
shader_module p = refl
