use Rattle.foz_args.proofs.Numbers.{number_test}
use Rattle.foz_args.proofs.number.is_number.Goals as goal

pub returns : goal.returns
returns c = number_test c.args.word.now c.as_bytes-digits.result.now c.is_empty.result c.all_digits.result c.as_bytes-digits.ensures.value c.is_empty.ensures c.if-is_empty.false c.if-digits-gt20.false c.all_digits.ensures
