use Rattle.std.proofs.Common.{take}
use Rattle.spirv_varint.proofs.Loop.{Begun}
use Rattle.spirv_varint.proofs.reading.read.Given as goal

abbrev pub invariant-loop-at : goal.invariant-loop-at
invariant-loop-at l = Begun (take l.at l.bytes) l.found l.word l.taken l.words
