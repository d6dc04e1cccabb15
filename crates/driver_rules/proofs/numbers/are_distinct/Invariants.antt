use Rattle.std.proofs.Common.{◌≡◌, drop}
use Rattle.std.specs.Ordering.{nat_cmp}
use Rattle.std.specs.BTreeSet.{contains}
use Rattle.driver_rules.specs.Numbers.{are_distinct}
use Rattle.driver_rules.proofs.Apart.{are_new}
use Rattle.driver_rules.proofs.numbers.are_distinct.Given as goal

abbrev pub invariant-loop-number : goal.invariant-loop-number
invariant-loop-number l = are_new (contains nat_cmp l.seen) (drop l.number-index l.numbers) ≡ are_distinct l.numbers
