use Rattle.std.proofs.Common.{◌≡◌, ◌++◌, ◌∷◌, [], length, take, min, refl, ap, ◌∙◌, inl, inr, arith}
use Rattle.std.proofs.lemmas.List.{length-take}
use Rattle.slot_log.specs.declared.note.SlotNote.TheVariants.{Got, Died}
use Rattle.mem_slot.specs.Slots.{left_of}
use Rattle.mem_slot.proofs.Dying.{same_deaths, more_deaths, no_bytes, no_room}
use Rattle.mem_slot.proofs.mem.MemSlotSlot.recv.Goals as goal

pub returns-then-count-eq0-clause-gone : goal.returns-then-count-eq0-clause-gone
returns-then-count-eq0-clause-gone g c = (c.die.ensures.running, c.die.ensures.log, more_deaths _ _ c.die.ensures.log)

pub returns-then-count-eq0-clause-cause : goal.returns-then-count-eq0-clause-cause
returns-then-count-eq0-clause-cause g c = (λ _. inl (no_bytes c.args.piece.now (left_of c.args.self.now) c.give-count.result c.give-count.ensures.count c.if-count-eq0.true c.requires.room), λ _. refl)

pub returns-then-not-add-clause-gone : goal.returns-then-not-add-clause-gone
returns-then-not-add-clause-gone g c =
    let log = c.die-then-not-add.ensures.log ∙ ap (λ t. t.log ++ Died ∷ []) (c.if-not-add.ensures.same refl) in
    (c.die-then-not-add.ensures.running, log, more_deaths _ _ log)

pub returns-then-not-add-clause-cause : goal.returns-then-not-add-clause-cause
returns-then-not-add-clause-cause g c =
    let count = c.give-count.ensures.count in
    let same = c.give-count.auto.piece in
    let cut = length-take c.give-count.result c.give-count.new.piece in
    let size : length (take c.give-count.result c.give-count.new.piece) ≡ min (length c.args.piece.now) (length (left_of c.args.self.now)) = omega arith in
    (λ _. inr (no_room c.args.self.now.tape.notes_left c.args.self.now.tape.bytes_left _ _ size (λ roomy. let wrong = c.if-not-add.ensures.room.1 roomy in cc)), λ _. refl)

pub returns-clause-got : goal.returns-clause-got
returns-clause-got g c =
    let added = c.if-not-add.ensures.added refl in
    (ap (λ t. t.running) added ∙ c.requires.running, ap (λ t. t.log) added, same_deaths _ _ (Got (take c.give-count.result c.give-count.new.piece)) (ap (λ t. t.log) added) refl)
