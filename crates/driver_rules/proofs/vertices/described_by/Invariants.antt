use Rattle.std.proofs.Common.{◌≡◌, ◌==◌, ℕ, take}
use Rattle.std.specs.List.{list_any}
use Rattle.std.specs.Ordering.{nat_cmp}
use Rattle.std.specs.BTreeSet.{contains}
use Rattle.driver_rules.specs.Graphics.{is_described}
use Rattle.driver_rules.proofs.vertices.described_by.Given as goal

abbrev pub invariant-loop-binding : goal.invariant-loop-binding
invariant-loop-binding l = (q : ℕ) → contains nat_cmp l.numbers q ≡ is_described (take l.binding-index l.bindings) q
