use Rattle.replay_run.proofs.Short.{items_fit}
use Rattle.replay_run.proofs.replayed.play.Goals as goal

pub run_all-requires-clause-jobs : goal.run_all-requires-clause-jobs
run_all-requires-clause-jobs g c κs within = record {
  graph = c.requires.graph.plan;
  plan = c.requires.plan;
  short = items_fit c.args.entries.now c.args.graph.now.classes c.requires.graph.classes c.requires.sized;
}
