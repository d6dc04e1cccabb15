use Rattle.std.proofs.Common.{◌≡◌, false, is_some, arith}
use Rattle.std.proofs.lemmas.Grind.{common_steps}
use Rattle.std.proofs.lemmas.List.Elements.{All-push}
use Rattle.process_slot.proofs.crew.crew_of.Goals as goal

pub slots-preserved : goal.slots-preserved
slots-preserved g c = record {
  few = let length_after = c.in_ok-push.ensures.len in let length_read = c.len.ensures in let below = c.slots-test.true in grind (arith, common_steps);
  at_rest = rw c.in_ok-push.ensures.items (All-push (λ slot. is_some slot.worker ≡ false) c.slots.crew.items c.in_ok-new.field-0 c.slots.invariant.at_rest c.in_ok-new.ensures.running);
}
