use Rattle.std.proofs.Common.{is_some, sym, ap, ◌∙◌}
use Rattle.record_words.proofs.Holders.{none_held, keys_damaged, keys_undamaged}
use Rattle.record_words.proofs.index.keys_held_grow.Goals as goal

pub returns-clause-none : goal.returns-clause-none
returns-clause-none c = λ is_among none key. none key ∙ sym (ap is_some (none_held key))

pub returns-clause-damaged : goal.returns-clause-damaged
returns-clause-damaged c = keys_damaged

pub returns-clause-undamaged : goal.returns-clause-undamaged
returns-clause-undamaged c = keys_undamaged
