use Rattle.std.proofs.Common.{refl, sym, ◌∙◌}
use Rattle.indexmap.specs.IndexMap.{get}
use Rattle.foz_words.specs.contracts.key.KeyPartialEq.TheImpl as KeyPartialEq
use Rattle.dep_graph.proofs.Results.{on_any, if_more}
use Rattle.dep_graph.proofs.Indexed.{passed, damaged_is, is_found}
use Rattle.dep_graph.proofs.survey.sort.Goals as goal

pub returns-in-Some-clause-indexed : goal.returns-in-Some-clause-indexed
returns-in-Some-clause-indexed c = λ before long indexed.
    c.indexes_grow.ensures.damaged (get KeyPartialEq.ghosts.eq c.args.index.now) before c.args.entry.now indexed (damaged_is c.args.entry.now c.in-Some.cause (sym c.requires.found ∙ c.in-Some.is))

pub returns-in-Some-copied-clause-indexed : goal.returns-in-Some-copied-clause-indexed
returns-in-Some-copied-clause-indexed c = λ before long indexed.
    c.indexes_grow.ensures.held (get KeyPartialEq.ghosts.eq c.args.index.now) before c.args.entry.now indexed (is_found _ c.in-Some-copied.first (c.in-Some-copied.ensures ∙ c.get.ensures.value))

pub returns-in-Some-copied-clause-sorted : goal.returns-in-Some-copied-clause-sorted
returns-in-Some-copied-clause-sorted c = λ before indexed.
    (λ items. (passed c.args.entry.now c.args.found c.requires.found c.in_default.is, sym (indexed c.args.entry.now.head.key) ∙ sym (c.in-Some-copied.ensures ∙ c.get.ensures.value)), refl)

pub returns-clause-indexed : goal.returns-clause-indexed
returns-clause-indexed c = on_any c.read_first.result (λ before long indexed.
    c.indexes_grow.ensures.first (get KeyPartialEq.ghosts.eq c.args.index.now) (get KeyPartialEq.ghosts.eq c.insert.new.self) before c.args.entry.now c.args.place indexed
    (passed c.args.entry.now c.args.found c.requires.found c.in_default.is) (sym (c.in_default-copied.ensures ∙ c.get.ensures.value)) long c.in_ok-insert.ensures.updates.0)

pub returns-clause-sorted : goal.returns-clause-sorted
returns-clause-sorted c = if_more _ _ c.read_first.result (λ sorted told before indexed. told before
    (record {
      sound = passed c.args.entry.now c.args.found c.requires.found c.in_default.is;
      first = sym (indexed c.args.entry.now.head.key) ∙ sym (c.in_default-copied.ensures ∙ c.get.ensures.value);
    }))
    c.read_first.ensures
