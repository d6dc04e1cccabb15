use Rattle.std.proofs.Common.{◌≡◌, List, map, take}
use Rattle.foz_words.specs.contracts.key.KeyPartialEq.TheImpl as KeyPartialEq
use Rattle.foz_entry.specs.declared.cut.Entry.{Entry}
use Rattle.indexmap.specs.IndexMap.{get}
use Rattle.record_words.specs.Index.{IsIndexOf}
use Rattle.dep_graph.specs.Surveys.{deps_held}
use Rattle.dep_graph.proofs.graph.all_deps.Given as goal

abbrev pub invariant-loop-refs : goal.invariant-loop-refs
invariant-loop-refs l = (entries : List Entry) → IsIndexOf (get KeyPartialEq.ghosts.eq l.survey.index) entries → l.deps.items ≡ map (deps_held entries l.survey.classes) (take l.refs-index l.rows)
