use Rattle.std.proofs.Common.{◌≡◌}
use Rattle.mem_slot.specs.Tapes.{log_with}
use Rattle.mem_slot.proofs.tape.with_late.Given as goal

abbrev pub invariant-loop : goal.invariant-loop
invariant-loop l = l.notes ≡ log_with l.fn.notes l.counter
