use Rattle.std.proofs.Common.{sym, subst}
use Rattle.record_dedup.specs.Kept.{Booked}
use Rattle.record_threads.specs.Shelves.{AreNotesOf}
use Rattle.record_threads.proofs.Growth.{notes_none}
use Rattle.record_threads.proofs.shelf.Shelf.new.Goals as goal

pub invariant_of-result : goal.invariant_of-result
invariant_of-result g c = subst (λ (b : Booked _). AreNotesOf b c.args.book c.new.result.items) (sym c.of-origin.ensures) (notes_none c.args.book c.new.result.items c.new.ensures.items)
