use Rattle.std.proofs.Common.{◌≡◌, false, sym, subst}
use Rattle.std.specs.Prelude.{All}
use Rattle.std.proofs.lemmas.List.Elements.{All-append, All-drop}
use Rattle.foz_tool.proofs.replay.replay_first.Goals as goal

pub returns-clause-at_rest : goal.returns-clause-at_rest
returns-clause-at_rest g c =
    All-append (λ slot. g.C.Slot.running slot ≡ false) _ _ c.replay_told.ensures.at_rest
    (subst (λ slots. All (λ slot. g.C.Slot.running slot ≡ false) slots) (sym c.split_at_mut-slots.ensures.back) (All-drop (λ slot. g.C.Slot.running slot ≡ false) c.args.workers c.args.crew.now c.requires.at_rest))
