use Rattle.std.proofs.Common.{take}
use Rattle.foz_words.specs.contracts.key.KeyPartialEq.TheImpl as KeyPartialEq
use Rattle.dep_graph.specs.Surveys.{IsSurvey}
use Rattle.dep_graph.proofs.survey.survey_of.Given as goal

abbrev pub invariant-loop-entry : goal.invariant-loop-entry
invariant-loop-entry l = IsSurvey KeyPartialEq.ghosts.eq l.survey (take l.entry-index l.entries)
