use Rattle.std.proofs.Common.{◌≡◌, ◌∙◌, ℕ, Bool}
use Rattle.std.specs.Ordering.{nat_cmp}
use Rattle.std.specs.BTreeSet.{contains}
use Rattle.driver_rules.specs.Graphics.{is_described}
use Rattle.driver_rules.proofs.Described.{all_same}
use Rattle.driver_rules.proofs.vertices.are_described.Goals as goal

pub returns : goal.returns
returns c = c.are_among.ensures ∙ all_same _ _ (λ a. c.in_ok-described.ensures a.binding) c.args.attributes.now
