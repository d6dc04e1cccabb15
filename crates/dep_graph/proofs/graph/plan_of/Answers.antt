use Rattle.std.proofs.Common.{sym, subst}
use Rattle.std.specs.List.{AllZip}
use Rattle.dep_graph.specs.Items.{item_entries, item_keys, DependsAs}
use Rattle.dep_graph.proofs.Planned.{depends, planned}
use Rattle.dep_graph.proofs.graph.plan_of.Goals as goal

pub returns-clause-graph : goal.returns-clause-graph
returns-clause-graph c =
    let known = c.in_ok-survey.ensures in record {
      classes = known.classes;
      plan = record {
        long = known.classes.long;
        items = known.items;
        distinct = known.distinct;
        deps = subst (AllZip (DependsAs (item_keys c.args.entries.now c.in_ok-survey.survey.classes)) (item_entries c.args.entries.now c.in_ok-survey.survey.classes))
            (sym (c.in_ok-deps.ensures c.args.entries.now known.index)) (depends c.args.entries.now c.in_ok-survey.survey known);
      };
    }

pub returns-clause-plan : goal.returns-clause-plan
returns-clause-plan c = planned c.args.entries.now c.in_ok-survey.survey c.in_ok-survey.ensures _ (c.in_ok-deps.ensures c.args.entries.now c.in_ok-survey.ensures.index) c.requires.few
