use Rattle.std.proofs.Common.{◌≡◌, List, map, take}
use Rattle.foz_words.specs.contracts.key.KeyPartialEq.TheImpl as KeyPartialEq
use Rattle.foz_entry.specs.declared.cut.Entry.{Entry}
use Rattle.indexmap.specs.IndexMap.{get}
use Rattle.record_words.specs.Index.{IsIndexOf}
use Rattle.dep_graph.specs.Surveys.{dep_held}
use Rattle.dep_graph.proofs.survey.Survey.deps_on.Given as goal

abbrev pub invariant-loop-key : goal.invariant-loop-key
invariant-loop-key l = (entries : List Entry) → IsIndexOf (get KeyPartialEq.ghosts.eq l.self.index) entries → l.deps.items ≡ map (dep_held entries l.self.classes) (take l.key-index l.keys)
