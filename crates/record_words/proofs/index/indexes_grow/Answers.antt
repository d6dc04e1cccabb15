use Rattle.std.proofs.Common.{sym, ◌∙◌}
use Rattle.record_words.proofs.Holders.{none_held, index_damaged, index_held, index_first}
use Rattle.record_words.proofs.index.indexes_grow.Goals as goal

pub returns-clause-none : goal.returns-clause-none
returns-clause-none c = λ look_up none key. none key ∙ sym (none_held key)

pub returns-clause-damaged : goal.returns-clause-damaged
returns-clause-damaged c = index_damaged

pub returns-clause-held : goal.returns-clause-held
returns-clause-held c = index_held

pub returns-clause-first : goal.returns-clause-first
returns-clause-first c = index_first
