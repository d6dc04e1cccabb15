use Rattle.spirv_check.proofs.Naming.{Adds}
use Rattle.spirv_check.proofs.names.ends_in.Given as goal

abbrev pub invariant-loop-byte : goal.invariant-loop-byte
invariant-loop-byte l = Adds l.fn.name l.byte-items l.name l.byte-index
