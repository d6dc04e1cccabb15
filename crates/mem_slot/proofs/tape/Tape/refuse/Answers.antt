use Rattle.std.proofs.Common.{◌≤◌, ◌++◌, ◌∷◌, [], refl, ap, ◌∙◌, sym, subst}
use Rattle.std.specs.Vec.{vec_capacity}
use Rattle.mem_slot.specs.declared.tape.Stamp.TheVariants.{NotStarted}
use Rattle.slot_log.specs.declared.note.SlotNote.TheVariants as notes
use Rattle.mem_slot.proofs.Taping.{early, bare_fits, pushed_bare}
use Rattle.mem_slot.proofs.tape.Tape.refuse.Goals as goal

pub invariant_of-self : goal.invariant_of-self
invariant_of-self g c =
    let tape = c.self.inside in
    let room = subst (λ n. 2 ≤ n) (sym (ap (λ t. t.notes_left) c.self.view_is)) (c.if-has_room.ensures.0 refl) in
    (bare_fits tape.stamps.items c.push_reserved.new.self.items NotStarted tape.bytes.items tape.late tape.running tape.running (vec_capacity tape.stamps) (vec_capacity c.push_reserved.new.self) c.self.invariant.0 (early tape.stamps.items tape.bytes.items tape.late tape.running (vec_capacity tape.stamps) c.self.invariant.0 room) c.push_reserved.ensures.items refl c.push_reserved.ensures.capacity (λ _. room), c.self.invariant.1)

pub returns-then-has_room-clause-log : goal.returns-then-has_room-clause-log
returns-then-has_room-clause-log g c =
    let tape = c.self.inside in
    let room = subst (λ n. 2 ≤ n) (sym (ap (λ t. t.notes_left) c.self.view_is)) (c.if-has_room.ensures.0 refl) in
    ap (λ t. t.log) (pushed_bare tape.stamps.items c.push_reserved.new.self.items NotStarted tape.bytes.items tape.late tape.running tape.running (vec_capacity tape.stamps) (vec_capacity c.push_reserved.new.self) tape.room c.self.invariant.0 (early tape.stamps.items tape.bytes.items tape.late tape.running (vec_capacity tape.stamps) c.self.invariant.0 room) c.push_reserved.ensures.items refl c.push_reserved.ensures.capacity)
    ∙ ap (λ t. t.log ++ notes.NotStarted ∷ []) c.self.view_is
