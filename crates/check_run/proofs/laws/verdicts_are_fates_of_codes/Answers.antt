use Rattle.std.proofs.Common.{ap}
use Rattle.replay_core.specs.Runs.{Setup}
use Rattle.dep_graph.specs.Items.{item_entries, item_keys}
use Rattle.check_run.proofs.Fated.{states_of, fated}
use Rattle.check_run.proofs.laws.verdicts_are_fates_of_codes.Goals as goal

pub returns-clause-states : goal.returns-clause-states
returns-clause-states c = λ entries graph is. states_of (item_keys entries graph.classes) (item_entries entries graph.classes) graph.plan.deps is.plan.deps

pub returns-clause-fates : goal.returns-clause-fates
returns-clause-fates c = λ entries graph core after states check meant.
    fated c.one_meaning.ensures.alone c.code_by_references.ensures c.keys_are_compared.ensures.same c.keys_are_compared.ensures.itself c.starts_after_dependencies.ensures entries graph check.graph_is.plan states meant
    core.setup (ap (λ (s : Setup). s.plan) check.replay.setup) c.verdicts_are_fates.ensures core.events after check.replay.driven check.replay.run check.replay.decided
