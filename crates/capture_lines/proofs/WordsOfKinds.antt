-- The line of a kind is cut after its word.
use Rattle.std.proofs.Common.{◌≡◌, ℕ, List, ◌∷◌, ◌++◌, Some, false, refl}
use Rattle.state_json.specs.declared.kind.JsonKind.TheVariants.{Sampler, SetLayout, PipelineLayout, RenderPass, Graphics, Compute}
use Rattle.capture_lines.specs.declared.kind.LineKind.{LineKind}
use Rattle.capture_lines.specs.declared.kind.LineKind.TheVariants.{Object, ShaderModule}
use Rattle.capture_lines.specs.Cutting.{is_skipped, cut}
use Rattle.capture_lines.specs.Kinds.{word_of, kind_of}

pub is_kept : (kind : LineKind) (text : List ℕ) → is_skipped (word_of kind ++ 32 ∷ text) ≡ false
unfolding word_of
is_kept (Object Sampler) text = refl
is_kept (Object SetLayout) text = refl
is_kept (Object PipelineLayout) text = refl
is_kept ShaderModule text = refl
is_kept (Object RenderPass) text = refl
is_kept (Object Graphics) text = refl
is_kept (Object Compute) text = refl

pub is_cut_behind : (kind : LineKind) (text : List ℕ) → cut (word_of kind ++ 32 ∷ text) ≡ Some (word_of kind, text)
unfolding word_of cut
is_cut_behind (Object Sampler) text = refl
is_cut_behind (Object SetLayout) text = refl
is_cut_behind (Object PipelineLayout) text = refl
is_cut_behind ShaderModule text = refl
is_cut_behind (Object RenderPass) text = refl
is_cut_behind (Object Graphics) text = refl
is_cut_behind (Object Compute) text = refl

pub is_known : (kind : LineKind) → kind_of (word_of kind) ≡ Some kind
unfolding word_of kind_of
is_known (Object Sampler) = refl
is_known (Object SetLayout) = refl
is_known (Object PipelineLayout) = refl
is_known ShaderModule = refl
is_known (Object RenderPass) = refl
is_known (Object Graphics) = refl
is_known (Object Compute) = refl
