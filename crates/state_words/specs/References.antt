-- The states that a state refers to, in the order of its fields.
use Rattle.std.specs.Prelude.{ℕ, ◌==◌, if◌then◌else◌, List, [], ◌∷◌, ◌++◌, map}
use Rattle.std.specs.List.{flat_map}
use Rattle.foz_words.specs.declared.key.Key.{Key}
use Rattle.vk_basic.specs.declared.set_layout.SetLayout as layouts
use Rattle.vk_pipe.specs.declared.graphics.GraphicsPipeline.{GraphicsPipeline}
use Rattle.vk_pipe.specs.declared.compute.ComputePipeline.{ComputePipeline}
use Rattle.state_words.specs.declared.state.State.{State}
use Rattle.state_words.specs.declared.state.State.TheVariants.{Sampler, SetLayout, PipelineLayout, ShaderModule, RenderPass, Graphics, Compute}

abbrev pub with_tag : ℕ → ℕ → Key
with_tag tag hash = record { tag = tag; hash = hash }

-- a base pipeline, where the hash isn't 0
abbrev pub base_ref : ℕ → ℕ → List Key
base_ref tag hash = if hash == 0 then [] else with_tag tag hash ∷ []

-- the immutable samplers, binding by binding
unfoldable pub sampler_refs : layouts.SetLayout → List Key
sampler_refs layout = flat_map (λ binding. map (with_tag 1) binding.immutable_samplers) layout.bindings

-- stage modules, layout, render pass, base pipeline
unfoldable pub graphics_refs : GraphicsPipeline → List Key
graphics_refs pipeline =
    map (λ stage. with_tag 4 stage.«module») pipeline.stages
    ++ with_tag 3 pipeline.layout ∷ with_tag 5 pipeline.render_pass ∷ base_ref 6 pipeline.base_pipeline_handle

-- module, layout, base pipeline
unfoldable pub compute_refs : ComputePipeline → List Key
compute_refs pipeline =
    with_tag 4 pipeline.stage.«module» ∷ with_tag 3 pipeline.layout ∷ base_ref 7 pipeline.base_pipeline_handle

unfoldable pub refs_of : State → List Key
refs_of (Sampler s) = []
refs_of (SetLayout s) = sampler_refs s
refs_of (PipelineLayout s) = map (with_tag 2) s.set_layouts
refs_of (ShaderModule s) = []
refs_of (RenderPass s) = []
refs_of (Graphics s) = graphics_refs s
refs_of (Compute s) = compute_refs s
