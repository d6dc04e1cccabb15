use Rattle.std.proofs.Common.{sym, ◌∙◌, arith}
use Rattle.foz_args.proofs.Numbers.{no_number, within_parsed, above_parsed, none_parsed}
use Rattle.foz_args.proofs.number.number_upto.Goals as goal

pub returns-then-not-is_number-clause-value : goal.returns-then-not-is_number-clause-value
returns-then-not-is_number-clause-value c = no_number c.args.most c.args.word.now (sym c.is_number.ensures ∙ c.if-not-is_number.true)

pub returns-then-number-most-clause-value : goal.returns-then-number-most-clause-value
returns-then-number-most-clause-value c = within_parsed c.args.most c.args.word.now (sym c.is_number.ensures ∙ c.if-not-is_number.false) c.in-Ok.number c.in-Ok.ensures.value.0.1 c.if-number-most.true

pub returns-else-number-most-clause-value : goal.returns-else-number-most-clause-value
returns-else-number-most-clause-value c = above_parsed c.args.most c.args.word.now (sym c.is_number.ensures ∙ c.if-not-is_number.false) c.in-Ok.number c.in-Ok.ensures.value.0.1 c.if-number-most.false

pub returns-in-Err-clause-value : goal.returns-in-Err-clause-value
returns-in-Err-clause-value c = none_parsed c.args.most c.args.word.now (sym c.is_number.ensures ∙ c.if-not-is_number.false) (omega arith) c.in-Err.ensures.value.0
