use Rattle.std.proofs.Common.{◌≤◌, length, refl}
use Rattle.foz_entry.specs.declared.cut.Entry.{Entry}
use Rattle.worker_msg.specs.Frames.{limit}
use Rattle.crew_tests.proofs.Picked.{of_items}
use Rattle.crew_tests.proofs.tests.run_end.Goals as goal

pub loop_end-requires-clause-jobs : goal.loop_end-requires-clause-jobs
loop_end-requires-clause-jobs g c = record {
  graph = c.in_ok-graph.ensures;
  plan = c.if-not-fits.ensures.0 refl;
  short = of_items (λ (entry : Entry). length entry.payload ≤ limit) c.args.entries.now c.in_ok-graph.graph.classes (c.if-not-are_short.ensures.0 refl);
}
