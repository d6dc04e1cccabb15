use Rattle.std.proofs.Common.{◌≡◌, take}
use Rattle.spirv_varint.specs.Varint.{spelling}
use Rattle.spirv_varint.proofs.writing.encode.Given as goal

abbrev pub invariant-loop-word : goal.invariant-loop-word
invariant-loop-word l = l.bytes.items ≡ spelling (take l.word-index l.words)
