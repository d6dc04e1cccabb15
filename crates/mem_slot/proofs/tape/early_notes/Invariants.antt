use Rattle.std.proofs.Common.{◌≡◌, take}
use Rattle.mem_slot.specs.Tapes.{total, notes_of}
use Rattle.mem_slot.proofs.tape.early_notes.Given as goal

abbrev pub invariant-loop-stamp : goal.invariant-loop-stamp
invariant-loop-stamp l = record {
  at : l.from ≡ total (take l.stamp-index l.stamps);
  so_far : l.notes ≡ notes_of (take l.stamp-index l.stamps) l.bytes;
}
