-- The states of a text that is shorter than 2^30 bytes are ordinary.
use Rattle.std.proofs.Common.{◌≡◌, ℕ, ◌+◌, ◌-◌, ◌<◌, ◌≤◌, ◌^◌, ◌==◌, max, Bool, true, false, cond, List, [], ◌∷◌, length, map, Option, Some, None, Result, Ok, Err, refl, subst, arith}
use Rattle.std.proofs.lemmas.List.{length-append, length-map}
use Rattle.std.proofs.lemmas.List.Concat.{flat_map-cons}
use Rattle.std.specs.List.{flat_map}
use Rattle.std.specs.Str.{is_utf8}
use Rattle.foz_words.specs.declared.key.Key.{Key}
use Rattle.float_fold.specs.Folding.{folded}
use Rattle.float_fold.proofs.Folds.{folded_shorter}
use Rattle.serde_json.specs.Data.{Data}
use Rattle.serde_json.specs.Read.{read}
use Rattle.vk_form.specs.Shape.{Fields, Plains}
use Rattle.json_fold.specs.Fault.{Fault, ◌>>=◌}
use Rattle.vk_basic.specs.declared.set_layout.Binding.{Binding}
use Rattle.vk_basic.specs.Tables as basic_table
use Rattle.vk_basic.specs.Plain as basic_plain
use Rattle.vk_basic.specs.Made as basic_made
use Rattle.vk_pass.specs.Tables as pass_table
use Rattle.vk_pass.specs.Plain as pass_plain
use Rattle.vk_pass.specs.Made as pass_made
use Rattle.vk_pipe.specs.declared.stage.Stage.{Stage}
use Rattle.vk_pipe.specs.Tables as pipe_table
use Rattle.vk_pipe.specs.Plain as pipe_plain
use Rattle.vk_pipe.specs.Made as pipe_made
use Rattle.state_words.specs.declared.state.State.{State}
use Rattle.state_words.specs.declared.state.State.TheVariants.{Sampler, SetLayout, PipelineLayout, ShaderModule, RenderPass, Graphics, Compute}
use Rattle.state_words.specs.Plain.{state_fields, state_plain}
use Rattle.state_words.specs.Words.{IsOrdinaryState}
use Rattle.state_words.specs.References.{refs_of, sampler_refs, graphics_refs, compute_refs, base_ref, with_tag}
use Rattle.state_json.specs.declared.kind.JsonKind as kind
use Rattle.state_json.specs.declared.kind.JsonKind.TheVariants as kinds
use Rattle.state_json.specs.Parsed.{value_of_text, or_json, of_folded, parsed}
use Rattle.state_json.specs.States.{state_reading}
use Rattle.state_json.proofs.Size.{size}
use Rattle.state_json.proofs.TextSize.{read_fits}
use Rattle.state_json.proofs.Weight.{total, weights, Light, struct_light, all_ordinary}
use Rattle.state_json.proofs.BasicForth as basic_forth
use Rattle.state_json.proofs.PassForth as pass_forth
use Rattle.state_json.proofs.PipeForth as pipe_forth

-- ---- texts

option_fits : (b : Bool) (o : Option Data) (d : Data) → cond b o None ≡ Some d → o ≡ Some d
option_fits true o d e = e
option_fits false o d e = absurd cc

value_fits : (n : ℕ) (o : Option Data) → ((d : Data) → o ≡ Some d → size d ≤ n) → Light size n (or_json o)
value_fits n None fits = tt
value_fits n (Some d) fits = fits d refl

fold_fits : (n : ℕ) (r : Result (List ℕ) ℕ) → ((row : List ℕ) → r ≡ Ok row → length row ≤ n) → Light size n (of_folded r)
fold_fits n (Err at) shorter = tt
fold_fits n (Ok row) shorter =
    let short : length row ≤ n = shorter row refl in
    value_fits n (value_of_text row) (λ d e. let fits : size d ≤ length row = read_fits row d (option_fits (is_utf8 row) (read row) d e) in omega arith)

-- a JSON value is no larger than its text
pub parsed_light : (text : List ℕ) → Light size (length text) (parsed text)
unfolding parsed
parsed_light text = fold_fits (length text) (folded text) (λ row e. folded_shorter text row e)

pub parsed_fits : (text : List ℕ) (d : Data) → parsed text ≡ Ok d → size d ≤ length text
parsed_fits text d e = subst (Light size (length text)) e (parsed_light text)

-- ---- states

abbrev pub state_weight : State → ℕ
state_weight state = weights (state_fields state) (state_plain state)

made_light : {S : Type 0} (state : S → State) (fs : Fields) (plain : S → Plains fs) (made : Plains fs → S) → ((p : Plains fs) → plain (made p) ≡ p) → ((s : S) → state_weight (state s) ≡ weights fs (plain s))
    → (n : ℕ) (r : Result (Plains fs) Fault) → Light (weights fs) n r → Light state_weight n (r >>= λ x. Ok (state (made x)))
made_light state fs plain made forth is n (Err e) light = tt
made_light state fs plain made forth is n (Ok x) light = rw (is (made x), forth x) light

-- the object of a state is larger by two than what the state weighs
pub state_light : (of_kind : kind.JsonKind) (value : Data) (path : List ℕ) → Light state_weight (size value - 1 - 1) (state_reading of_kind value path)
unfolding state_reading
state_light kinds.Sampler value path = made_light Sampler basic_table.sampler basic_plain.sampler basic_made.sampler basic_forth.sampler (λ s. refl) _ _ (struct_light basic_table.sampler value path)
state_light kinds.SetLayout value path = made_light SetLayout basic_table.set_layout basic_plain.set_layout basic_made.set_layout basic_forth.set_layout (λ s. refl) _ _ (struct_light basic_table.set_layout value path)
state_light kinds.PipelineLayout value path = made_light PipelineLayout basic_table.pipeline_layout basic_plain.pipeline_layout basic_made.pipeline_layout basic_forth.pipeline_layout (λ s. refl) _ _ (struct_light basic_table.pipeline_layout value path)
state_light kinds.RenderPass value path = made_light RenderPass pass_table.render_pass pass_plain.render_pass pass_made.render_pass pass_forth.render_pass (λ s. refl) _ _ (struct_light pass_table.render_pass value path)
state_light kinds.Graphics value path = made_light Graphics pipe_table.graphics_pipeline pipe_plain.graphics_pipeline pipe_made.graphics_pipeline pipe_forth.graphics_pipeline (λ s. refl) _ _ (struct_light pipe_table.graphics_pipeline value path)
state_light kinds.Compute value path = made_light Compute pipe_table.compute_pipeline pipe_plain.compute_pipeline pipe_made.compute_pipeline pipe_forth.compute_pipeline (λ s. refl) _ _ (struct_light pipe_table.compute_pipeline value path)

-- ---- references

inner : (a b c : ℕ) → b ≤ max a (max b c)
inner a b c = omega arith

base_few : (tag hash : ℕ) → length (base_ref tag hash) ≤ 1
base_few tag hash = one (hash == 0)
  where
    one : (b : Bool) → length (cond b [] (with_tag tag hash ∷ [])) ≤ 1
    one true = omega arith
    one false = omega arith

binding_few : (b : Binding) → length b.immutable_samplers ≤ weights basic_table.binding (basic_plain.binding b)
unfolding basic_table.binding basic_plain.binding
binding_few b = omega arith

bindings_few : (bs : List Binding) → length (flat_map (λ (b : Binding). map (with_tag 1) b.immutable_samplers) bs) ≤ total (weights basic_table.binding) (map basic_plain.binding bs)
bindings_few [] = omega arith
bindings_few (b ∷ bs) =
    rw (flat_map-cons (λ (c : Binding). map (with_tag 1) c.immutable_samplers) b bs)
    (omega (arith, length-append (map (with_tag 1) b.immutable_samplers) (flat_map (λ (c : Binding). map (with_tag 1) c.immutable_samplers) bs), length-map b.immutable_samplers (with_tag 1), binding_few b, bindings_few bs))

pub refs_few : (state : State) → length (refs_of state) ≤ state_weight state + 3
unfolding refs_of sampler_refs graphics_refs compute_refs basic_table.set_layout basic_plain.set_layout basic_table.pipeline_layout basic_plain.pipeline_layout pipe_table.graphics_pipeline pipe_plain.graphics_pipeline
refs_few (Sampler s) = omega arith
refs_few (SetLayout s) = omega (arith, bindings_few s.bindings)
refs_few (PipelineLayout s) = omega (arith, length-map s.set_layouts (with_tag 2))
refs_few (ShaderModule s) = omega arith
refs_few (RenderPass s) = omega arith
refs_few (Graphics s) =
    let stages : length (map pipe_plain.stage s.stages) + total (weights pipe_table.stage) (map pipe_plain.stage s.stages) ≤ state_weight (Graphics s) = inner _ _ _ in
    let of_stage : Stage → Key = λ stage. with_tag 4 stage.«module» in
    let others = with_tag 3 s.layout ∷ with_tag 5 s.render_pass ∷ base_ref 6 s.base_pipeline_handle in
    omega (arith, stages, length-map s.stages pipe_plain.stage, length-map s.stages of_stage, length-append (map of_stage s.stages) others, base_few 6 s.base_pipeline_handle)
refs_few (Compute s) = omega (arith, base_few 7 s.base_pipeline_handle)

-- ---- what was read

pub ordinary_if_light : (state : State) → state_weight state < 2 ^ 30 → IsOrdinaryState state
ordinary_if_light state light = all_ordinary (state_fields state) (state_plain state) light

pub read_ordinary : (of_kind : kind.JsonKind) (value : Data) (path : List ℕ) (state : State) → state_reading of_kind value path ≡ Ok state → size value < 2 ^ 30 → IsOrdinaryState state
read_ordinary of_kind value path state e small =
    let light : state_weight state ≤ size value - 1 - 1 = subst (Light state_weight (size value - 1 - 1)) e (state_light of_kind value path) in
    ordinary_if_light state (omega arith)

-- one value more, such as the object around this one, is enough for the references
pub read_few : (of_kind : kind.JsonKind) (value : Data) (path : List ℕ) (state : State) → state_reading of_kind value path ≡ Ok state → size value + 1 < 2 ^ 30 → length (refs_of state) < 2 ^ 30
read_few of_kind value path state e small =
    let light : state_weight state ≤ size value - 1 - 1 = subst (Light state_weight (size value - 1 - 1)) e (state_light of_kind value path) in
    let few = refs_few state in
    omega arith
