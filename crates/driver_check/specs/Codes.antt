-- The code of a state: that of the first rule of its kind that it breaks, or 0.
use Rattle.std.specs.Prelude.{ℕ, ◌≡◌, ◌==◌, nat_lt, Bool, true, if◌then◌else◌, List, [], ◌∷◌, length, is_some, Option, Some, None}
use Rattle.std.specs.Option.{option_map_or}
use Rattle.std.specs.List.{list_all, slice_get}
use Rattle.foz_words.specs.declared.key.Key.{Key}
use Rattle.spirv_check.specs.declared.shape.EntryPoint.{EntryPoint}
use Rattle.vk_pass.specs.declared.subpass.Subpass.{Subpass}
use Rattle.vk_pipe.specs.declared.graphics.GraphicsPipeline.{GraphicsPipeline}
use Rattle.vk_pipe.specs.declared.compute.ComputePipeline.{ComputePipeline}
use Rattle.state_words.specs.declared.state.State.{State}
use Rattle.state_words.specs.declared.state.State.TheVariants.{Sampler, SetLayout, PipelineLayout, ShaderModule, RenderPass, Graphics, Compute}
use Rattle.state_words.specs.References.{refs_of, with_tag}
use Rattle.driver_rules.specs.Rules.{first_broken}
use Rattle.driver_rules.specs.Sampler.{sampler_rules}
use Rattle.driver_rules.specs.SetLayout.{set_layout_rules}
use Rattle.driver_rules.specs.PipelineLayout.{pipeline_layout_rules}
use Rattle.driver_rules.specs.RenderPass.{render_pass_rules}
use Rattle.driver_rules.specs.Modules.{module_code}
use Rattle.driver_rules.specs.Stage.{has_data, has_entry, starts_in}
use Rattle.driver_rules.specs.Graphics.{has_graphics_stages, has_distinct_stages, has_stage, stages_have_data, tessellates_whole, has_well_fed_vertices, blends, has_distinct_dynamics}
use Rattle.driver_check.specs.Kept.{KeptStates, with_state}
use Rattle.driver_check.specs.Offers.{entries_offered, subpasses_offered}

-- each state that this one refers to was created
abbrev pub are_created : KeptStates → List Key → Bool
are_created kept keys = list_all (λ key. is_some (kept key)) keys

-- the entry points of the module with this hash
abbrev pub entries_of : KeptStates → ℕ → List EntryPoint
entries_of kept hash = option_map_or entries_offered (kept (with_tag 4 hash)) []

-- the subpasses of the render pass with this hash
abbrev pub subpasses_of : KeptStates → ℕ → List Subpass
subpasses_of kept hash = option_map_or subpasses_offered (kept (with_tag 5 hash)) []

-- ---- compute pipelines

unfoldable pub compute_rules : KeptStates → ComputePipeline → List (ℕ × Bool)
compute_rules kept p =
    (28, p.stage.stage == 32) ∷
    (29, has_entry (entries_of kept p.stage.«module») 5 p.stage.name) ∷
    (30, has_data p.stage) ∷
    []

-- ---- graphics pipelines

-- each stage starts at an entry point of its module
abbrev pub stages_start : KeptStates → GraphicsPipeline → Bool
stages_start kept p = list_all (λ s. starts_in (entries_of kept s.«module») s) p.stages

-- as many attachments are blended as the subpass has colour attachments, where there is such a subpass
abbrev pub blends_in : List Subpass → GraphicsPipeline → Bool
blends_in subpasses p = option_map_or (λ s. blends (length s.color_attachments) p) (slice_get subpasses p.subpass) true

unfoldable pub graphics_rules : KeptStates → GraphicsPipeline → List (ℕ × Bool)
graphics_rules kept p =
    (31, has_graphics_stages p) ∷
    (32, has_distinct_stages p) ∷
    (33, has_stage 1 p) ∷
    (34, stages_start kept p) ∷
    (35, stages_have_data p) ∷
    (36, tessellates_whole p) ∷
    (37, nat_lt p.subpass (length (subpasses_of kept p.render_pass))) ∷
    (38, has_well_fed_vertices p) ∷
    (39, blends_in (subpasses_of kept p.render_pass) p) ∷
    (40, has_distinct_dynamics p) ∷
    []

-- ---- all kinds

-- the code of a state whose references were all created
unfoldable pub own_code : KeptStates → State → ℕ
own_code kept (Sampler s) = first_broken (sampler_rules s)
own_code kept (SetLayout s) = first_broken (set_layout_rules s)
own_code kept (PipelineLayout s) = first_broken (pipeline_layout_rules s)
own_code kept (ShaderModule s) = module_code s.code
own_code kept (RenderPass s) = first_broken (render_pass_rules s)
own_code kept (Graphics s) = first_broken (graphics_rules kept s)
own_code kept (Compute s) = first_broken (compute_rules kept s)

-- the code of a state over those that were created
unfoldable pub code : KeptStates → State → ℕ
code kept state = if are_created kept (refs_of state) then own_code kept state else 41

-- what was created then
unfoldable pub kept_after : KeptStates → Key → State → KeptStates
kept_after kept key state = if code kept state == 0 then with_state kept key state else kept

-- a state is created: its code, and what was created before and after
pub record Creates (before : KeptStates) (key : Key) (state : State) (answer : ℕ) (after : KeptStates) : Type 0 where
  pub coded : answer ≡ code before state
  pub kept : after ≡ kept_after before key state
