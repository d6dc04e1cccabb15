-- The code of a state depends on what was created under the keys that it refers to.
use Rattle.std.proofs.Common.{ℕ, ◌≡◌, Bool, List, [], ◌∷◌, ◌++◌, map, length, Option, refl, ap, sym, ◌∙◌}
use Rattle.std.specs.List.{All, AllByRecursion, list_all}
use Rattle.std.specs.Option.{option_map_or}
use Rattle.std.proofs.lemmas.List.Elements.{recursion_from_All}
use Rattle.foz_words.specs.declared.key.Key.{Key}
use Rattle.vk_pipe.specs.declared.stage.Stage.{Stage}
use Rattle.vk_pipe.specs.declared.graphics.GraphicsPipeline.{GraphicsPipeline}
use Rattle.vk_pipe.specs.declared.compute.ComputePipeline.{ComputePipeline}
use Rattle.state_words.specs.declared.state.State.{State}
use Rattle.state_words.specs.declared.state.State.TheVariants.{Sampler, SetLayout, PipelineLayout, ShaderModule, RenderPass, Graphics, Compute}
use Rattle.state_words.specs.References.{refs_of, graphics_refs, compute_refs, base_ref, with_tag}
use Rattle.driver_rules.specs.Rules.{first_broken}
use Rattle.driver_rules.specs.Stage.{starts_in}
use Rattle.driver_check.specs.Kept.{KeptStates, AgreeOn}
use Rattle.driver_check.specs.Offers.{entries_offered, subpasses_offered}
use Rattle.driver_check.specs.Codes.{are_created, entries_of, subpasses_of, stages_start, compute_rules, graphics_rules, own_code, code}

-- `AgreeOn`, key by key
abbrev Agree : KeptStates → KeptStates → List Key → Type 0
Agree kept other keys = AllByRecursion (λ key. kept key ≡ other key) keys

agree_after : (kept other : KeptStates) (keys more : List Key) → Agree kept other (keys ++ more) → Agree kept other more
agree_after kept other [] more agree = agree
agree_after kept other (key ∷ keys) more agree = agree_after kept other keys more agree.1

same_created : (kept other : KeptStates) (keys : List Key) → Agree kept other keys → are_created kept keys ≡ are_created other keys
same_created kept other [] agree = refl
same_created kept other (key ∷ keys) agree = rw (agree.0, same_created kept other keys agree.1) refl

same_entries : (kept other : KeptStates) (hash : ℕ) → kept (with_tag 4 hash) ≡ other (with_tag 4 hash) → entries_of kept hash ≡ entries_of other hash
same_entries kept other hash same = ap (λ o. option_map_or entries_offered o []) same

same_subpasses : (kept other : KeptStates) (hash : ℕ) → kept (with_tag 5 hash) ≡ other (with_tag 5 hash) → subpasses_of kept hash ≡ subpasses_of other hash
same_subpasses kept other hash same = ap (λ o. option_map_or subpasses_offered o []) same

same_starts : (kept other : KeptStates) (stages : List Stage) (more : List Key) → Agree kept other (map (λ s. with_tag 4 s.«module») stages ++ more)
    → list_all (λ s. starts_in (entries_of kept s.«module») s) stages ≡ list_all (λ s. starts_in (entries_of other s.«module») s) stages
same_starts kept other [] more agree = refl
same_starts kept other (stage ∷ stages) more agree = rw (same_entries kept other stage.«module» agree.0, same_starts kept other stages more agree.1) refl

same_graphics : (kept other : KeptStates) (p : GraphicsPipeline) → Agree kept other (graphics_refs p) → graphics_rules kept p ≡ graphics_rules other p
unfolding graphics_rules graphics_refs
same_graphics kept other p agree =
    let after = agree_after kept other (map (λ s. with_tag 4 s.«module») p.stages) _ agree in
    let starts = same_starts kept other p.stages _ agree in
    let subpasses = same_subpasses kept other p.render_pass after.1.0 in
    rw (starts, subpasses) refl

same_compute : (kept other : KeptStates) (p : ComputePipeline) → Agree kept other (compute_refs p) → compute_rules kept p ≡ compute_rules other p
unfolding compute_rules compute_refs
same_compute kept other p agree = rw (same_entries kept other p.stage.«module» agree.0) refl

same_own : (kept other : KeptStates) (state : State) → Agree kept other (refs_of state) → own_code kept state ≡ own_code other state
unfolding own_code refs_of
same_own kept other (Sampler s) agree = refl
same_own kept other (SetLayout s) agree = refl
same_own kept other (PipelineLayout s) agree = refl
same_own kept other (ShaderModule s) agree = refl
same_own kept other (RenderPass s) agree = refl
same_own kept other (Graphics s) agree = ap first_broken (same_graphics kept other s agree)
same_own kept other (Compute s) agree = ap first_broken (same_compute kept other s agree)

pub same_code : (kept other : KeptStates) (state : State) → AgreeOn (refs_of state) kept other → code kept state ≡ code other state
unfolding code
same_code kept other state agree =
    let each = recursion_from_All (λ key. kept key ≡ other key) (refs_of state) agree in
    rw (same_created kept other (refs_of state) each, same_own kept other state each) refl
