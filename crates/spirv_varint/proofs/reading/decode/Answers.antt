use Rattle.spirv_varint.proofs.Rows.{one_answer}
use Rattle.spirv_varint.proofs.reading.decode.Goals as goal

pub returns-clause-only : goal.returns-clause-only
returns-clause-only c = λ other known_other known a. one_answer c.args.bytes.now c.args.words c.read.result other known known_other c.read.ensures a
