use Rattle.std.proofs.Common.{◌≡◌, ◌≤◌, ℕ, Ok, Some, refl, sym, ap, ◌∙◌, subst}
use Rattle.std.specs.Prelude.{option_map}
use Rattle.serde_json.specs.Data.{Data, depth}
use Rattle.serde_json.specs.Read.{max_depth}
use Rattle.serde_json.specs.View.{view}
use Rattle.serde_json.specs.declared.value.Value.{Value}
use Rattle.state_words.specs.declared.state.State.TheVariants.{ShaderModule}
use Rattle.capture_lines.specs.Kinds.{kind_of_state}
use Rattle.capture_lines.specs.Line.{value_meaning}
use Rattle.capture_lines.specs.Writing.{line_object}
use Rattle.capture_lines.specs.declared.kind.LineKind.TheVariants as kinds
use Rattle.capture_lines.proofs.Again.{is_flat, is_module, object_is, object_again}
use Rattle.capture_lines.proofs.Modules.{if_ok}
use Rattle.capture_lines.proofs.writing.object_of.Goals as goal

pub unreachable-requires : goal.unreachable-requires
unreachable-requires c = is_module c.args.state.now (ap (option_map view) (sym c.in-None.is) ∙ c.in_ok-value-in_default.ensures.written) c.in_default.not-ShaderModule

pub returns-in-ShaderModule-clause-flat : goal.returns-in-ShaderModule-clause-flat
returns-in-ShaderModule-clause-flat c =
    if_ok _ (λ (v : Value). depth (view v) ≤ max_depth) c.module_value.result (λ v h. rw h (is_flat (ShaderModule c.in-ShaderModule.module))) c.module_value.ensures.object

pub returns-in-ShaderModule-clause-read_again : goal.returns-in-ShaderModule-clause-read_again
unfolding kind_of_state
returns-in-ShaderModule-clause-read_again c = rw c.in-ShaderModule.is c.module_value.ensures.again

pub returns-in-Some : goal.returns-in-Some
returns-in-Some c =
    let s = c.args.state.now in
    let value = c.in-Some.value in
    let ensured = c.in_ok-value-in_default.ensures in
    let is = ap (option_map view) (sym c.in-Some.is) ∙ ensured.written in
    let object = object_is s (view value) is in
    record {
      object = object;
      no_float = rw c.in-Some.is at ensured.no_float;
      flat = rw object (is_flat s);
      read_again = object_again s (view value) is ensured.in_range;
    }
