use Rattle.std.proofs.Common.{◌≡◌, drop}
use Rattle.driver_rules.specs.Rules.{first_broken}
use Rattle.driver_rules.proofs.rules.first_broken.Given as goal

abbrev pub invariant-loop-code : goal.invariant-loop-code
invariant-loop-code l = first_broken (drop l.code-index l.rules) ≡ first_broken l.rules
