use Rattle.std.proofs.Common.{◌≡◌, List, [], length, refl, ap, sym, ◌∙◌, subst, arith}
use Rattle.std.proofs.lemmas.List.Elements.{All-nil}
use Rattle.replay_core.specs.declared.event.Event.{Event}
use Rattle.replay_core.specs.Counting.{IsCountOf}
use Rattle.replay_board.specs.declared.note.BoardNote.{BoardNote}
use Rattle.replay_board.specs.Notes.{signed, MayMake, AreByMakers}
use Rattle.replay_board.proofs.Counting.{counted_first, counted_at}
use Rattle.replay_board.proofs.board.Board.new.Goals as goal

pub invariant_of-shared : goal.invariant_of-shared
invariant_of-shared c =
    let none : c.args.core.events ≡ [] = c.requires in
    let first : IsCountOf c.args.core.setup [] c.counts.result = subst (λ (es : List Event). IsCountOf c.args.core.setup es c.counts.result) none c.counts.ensures.counts in
    record {
      paired = ap length c.in-Ok.ensures.items ∙ sym (ap length none);
      room = (let r = c.room.ensures.room in let k = c.in-Ok.ensures.capacity in omega arith);
      by_makers = subst (λ ks. AreByMakers (signed ks c.args.core.events)) (sym c.in-Ok.ensures.items) (All-nil (λ (n : BoardNote). MayMake n.seat n.event));
      counted = counted_at _ _ _ _ _ _ refl none c.in-Ok-new.ensures.rows (counted_first c.args.core.setup c.counts.result first);
    }
