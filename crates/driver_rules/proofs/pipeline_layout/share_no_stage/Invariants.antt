use Rattle.std.proofs.Common.{◌≡◌, drop, map}
use Rattle.driver_rules.specs.Numbers.{share_no_bit}
use Rattle.driver_rules.proofs.Apart.{are_free}
use Rattle.driver_rules.proofs.pipeline_layout.share_no_stage.Given as goal

abbrev pub invariant-loop-range : goal.invariant-loop-range
invariant-loop-range l = are_free l.taken (drop l.range-index (map (λ r. r.stage_flags) l.ranges)) ≡ share_no_bit (map (λ r. r.stage_flags) l.ranges)
