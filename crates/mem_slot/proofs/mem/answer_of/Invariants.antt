use Rattle.std.proofs.Common.{◌≡◌, drop}
use Rattle.mem_slot.specs.Acts.{act_of}
use Rattle.mem_slot.proofs.mem.answer_of.Given as goal

abbrev pub invariant-loop-listed : goal.invariant-loop-listed
invariant-loop-listed l = act_of l.acts l.key ≡ act_of (drop l.listed-index l.acts) l.key
