use Rattle.spirv_varint.proofs.Rows.{one_answer}
use Rattle.spirv_varint.proofs.Lengths.{spelling_read, length-spelling, Splits-length}
use Rattle.spirv_varint.proofs.laws.one_reading.Goals as goal

pub returns-clause-alone : goal.returns-clause-alone
returns-clause-alone c = one_answer

pub returns-clause-read_back : goal.returns-clause-read_back
returns-clause-read_back c = spelling_read

pub returns-clause-at_most_five : goal.returns-clause-at_most_five
returns-clause-at_most_five c = length-spelling

pub returns-clause-at_least_one : goal.returns-clause-at_least_one
returns-clause-at_least_one c = λ bytes words rest. Splits-length words bytes rest
