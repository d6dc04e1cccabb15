use Rattle.std.specs.Prelude.{All}
use Rattle.dep_graph.specs.Items.{HasItsSize}
use Rattle.check_run.proofs.tests.checked.Given as goal

abbrev pub invariant-loop-tag : goal.invariant-loop-tag
invariant-loop-tag g l = record {
  sized : All HasItsSize l.entries.items;
}
