use Rattle.std.proofs.Common.{take}
use Rattle.dep_graph.proofs.Indexed.{none_indexed}
use Rattle.dep_graph.proofs.Surveyed.{none_surveyed, fewer_items}
use Rattle.dep_graph.proofs.survey.survey_of.Goals as goal

pub loop-entry-init : goal.loop-entry-init
loop-entry-init c = none_surveyed _ (none_indexed c.new.result c.new.ensures.empty) c.new-2.ensures c.new-3.ensures c.new-4.ensures

pub add-requires-clause-fewer : goal.add-requires-clause-fewer
add-requires-clause-fewer c = fewer_items (take c.loop-entry.entry-index c.args.entries.now) c.loop-entry.survey c.loop-entry.invariant
