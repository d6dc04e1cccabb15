use Rattle.std.proofs.Common.{◌++◌, ◌∷◌, [], refl, ap, ◌∙◌}
use Rattle.slot_log.specs.declared.note.SlotNote.TheVariants.{Sent, Died}
use Rattle.mem_slot.proofs.Dying.{same_deaths, more_deaths}
use Rattle.mem_slot.proofs.mem.MemSlotSlot.send.Goals as goal

pub returns-then-not-add-clause-gone : goal.returns-then-not-add-clause-gone
returns-then-not-add-clause-gone g c =
    let log = c.die.ensures.log ∙ ap (λ t. t.log ++ Died ∷ []) (c.if-not-add.ensures.same refl) in
    (c.die.ensures.running, log, more_deaths _ _ log)

pub returns-clause-sent : goal.returns-clause-sent
returns-clause-sent g c =
    let added = c.if-not-add.ensures.added refl in
    (ap (λ t. t.running) added ∙ c.requires.running, ap (λ t. t.log) added, same_deaths _ _ (Sent c.args.frame.now) (ap (λ t. t.log) added) refl)
