use Rattle.record_words.proofs.Holders.{none_held, first_adds, damaged_adds_none, held_adds_none, checked}
use Rattle.record_words.proofs.Rows.{holder_below}
use Rattle.record_words.proofs.index.first_of_its_key_holds_it.Goals as goal

pub returns-clause-none : goal.returns-clause-none
returns-clause-none c = none_held

pub returns-clause-there : goal.returns-clause-there
returns-clause-there c = holder_below

pub returns-clause-first : goal.returns-clause-first
returns-clause-first c = first_adds

pub returns-clause-damaged : goal.returns-clause-damaged
returns-clause-damaged c = damaged_adds_none

pub returns-clause-held : goal.returns-clause-held
returns-clause-held c = held_adds_none

pub returns-clause-checked : goal.returns-clause-checked
returns-clause-checked c = checked
