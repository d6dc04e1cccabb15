use Rattle.std.proofs.Common.{◌-◌, ◌≤◌, ◌++◌, ◌∷◌, [], true, refl, ap, ◌∙◌, sym, subst}
use Rattle.std.specs.Vec.{vec_capacity}
use Rattle.slot_log.specs.declared.note.SlotNote.TheVariants as notes
use Rattle.mem_slot.specs.declared.tape.Stamp.TheVariants.{Started}
use Rattle.mem_slot.proofs.Taping.{early, pushed_bare, bare_fits}
use Rattle.mem_slot.proofs.tape.Tape.begin.Goals as goal

pub invariant_of-self : goal.invariant_of-self
invariant_of-self c =
    let tape = c.self.inside in
    let room = subst (λ n. 2 ≤ n) (sym (ap (λ t. t.notes_left) c.self.view_is)) c.requires.room in
    (bare_fits tape.stamps.items c.push_reserved.new.self.items Started tape.bytes.items tape.late tape.running true (vec_capacity tape.stamps) (vec_capacity c.push_reserved.new.self) c.self.invariant.0 (early tape.stamps.items tape.bytes.items tape.late tape.running (vec_capacity tape.stamps) c.self.invariant.0 room) c.push_reserved.ensures.items refl c.push_reserved.ensures.capacity (λ _. room), c.self.invariant.1)

pub returns : goal.returns
returns c =
    let tape = c.self.inside in
    let room = subst (λ n. 2 ≤ n) (sym (ap (λ t. t.notes_left) c.self.view_is)) c.requires.room in
    pushed_bare tape.stamps.items c.push_reserved.new.self.items Started tape.bytes.items tape.late tape.running true (vec_capacity tape.stamps) (vec_capacity c.push_reserved.new.self) tape.room c.self.invariant.0 (early tape.stamps.items tape.bytes.items tape.late tape.running (vec_capacity tape.stamps) c.self.invariant.0 room) c.push_reserved.ensures.items refl c.push_reserved.ensures.capacity
    ∙ ap (λ t. record { log = t.log ++ notes.Started ∷ []; running = true; notes_left = t.notes_left - 1; bytes_left = t.bytes_left }) c.self.view_is
