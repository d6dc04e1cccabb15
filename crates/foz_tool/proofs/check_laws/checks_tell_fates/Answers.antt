use Rattle.foz_tool.proofs.check_laws.checks_tell_fates.Goals as goal

pub returns : goal.returns
returns c = λ entries after text status told.
    let law = c.verdicts_are_fates_of_codes.ensures in
    let graph_is = told.replayed.graph_is in
    let meant = law.states entries told.graph graph_is in
    record {
      graph = told.graph;
      graph_is = graph_is;
      states = meant.0;
      are_states = meant.1;
      verdicts = _;
      fates = law.fates entries told.graph told.core after meant.0 told.replayed meant.1;
      events = told.core.events;
      told = told.told;
      status_is = told.status_is;
    }
