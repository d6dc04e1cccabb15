use Rattle.spirv_check.proofs.Naming.{Reads}
use Rattle.spirv_check.proofs.names.name_of.Given as goal

abbrev pub invariant-loop-word : goal.invariant-loop-word
invariant-loop-word l = Reads l.words l.name l.word-index
