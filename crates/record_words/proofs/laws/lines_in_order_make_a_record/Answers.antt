use Rattle.record_words.proofs.Alone.{alone}
use Rattle.record_words.proofs.OneByOne.{alone_are, alone_apart}
use Rattle.record_words.proofs.laws.lines_in_order_make_a_record.Goals as goal

pub returns-clause-recorded : goal.returns-clause-recorded
returns-clause-recorded g c = λ before lines. alone_are before lines

pub returns-clause-only : goal.returns-clause-only
returns-clause-only g c = λ before later lines answers are. alone before later lines answers are

pub returns-clause-apart : goal.returns-clause-apart
returns-clause-apart g c = λ before lines. alone_apart before lines
