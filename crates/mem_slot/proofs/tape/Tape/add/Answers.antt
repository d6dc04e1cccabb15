use Rattle.std.proofs.Common.{◌-◌, ◌≤◌, ◌++◌, ◌∷◌, [], length, refl, ap, ◌∙◌, sym, subst, arith}
use Rattle.std.specs.Vec.{vec_capacity}
use Rattle.mem_slot.specs.Tapes.{note_of}
use Rattle.mem_slot.proofs.Taping.{pushed, pushed_fits, bytes_fit}
use Rattle.mem_slot.proofs.tape.Tape.add.Goals as goal

pub invariant_of-self : goal.invariant_of-self
invariant_of-self c =
    let tape = c.self.inside in
    let runs = ap (λ t. t.running) c.self.view_is ∙ c.requires.running in
    let room = subst (λ n. 2 ≤ n) (sym (ap (λ t. t.notes_left) c.self.view_is)) (c.if-not-has_room.ensures.0 refl) in (
      pushed_fits tape.stamps.items c.push_reserved.new.self.items c.args.stamp tape.bytes.items c.args.piece.now c.extend_from_slice.new.self.items tape.late tape.running tape.running (vec_capacity tape.stamps) (vec_capacity c.push_reserved.new.self) c.self.invariant.0 (c.self.invariant.0.early runs) c.push_reserved.ensures.items c.in-Ok.ensures.items c.requires.size c.push_reserved.ensures.capacity (λ _. room),
      bytes_fit tape.room (vec_capacity tape.bytes) (vec_capacity c.extend_from_slice.new.self) tape.bytes.items c.extend_from_slice.new.self.items c.args.piece.now c.self.invariant.1 c.in-Ok.ensures.items c.in-Ok.ensures.capacity (let fits = c.if-self-len.false in omega arith),
    )

pub returns-clause-added : goal.returns-clause-added
returns-clause-added c = λ _.
    let tape = c.self.inside in
    let runs = ap (λ t. t.running) c.self.view_is ∙ c.requires.running in
    pushed tape.stamps.items c.push_reserved.new.self.items c.args.stamp tape.bytes.items c.args.piece.now c.extend_from_slice.new.self.items tape.late tape.running tape.running (vec_capacity tape.stamps) (vec_capacity c.push_reserved.new.self) tape.room tape.room c.self.invariant.0 (c.self.invariant.0.early runs) c.push_reserved.ensures.items c.in-Ok.ensures.items c.requires.size c.push_reserved.ensures.capacity refl
    ∙ ap (λ t. record { log = t.log ++ note_of c.args.stamp c.args.piece.now ∷ []; running = t.running; notes_left = t.notes_left - 1; bytes_left = t.bytes_left - length c.args.piece.now }) c.self.view_is
