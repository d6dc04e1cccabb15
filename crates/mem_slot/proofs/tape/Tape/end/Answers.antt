use Rattle.std.proofs.Common.{◌-◌, ◌++◌, ◌∷◌, [], false, ap, ◌∙◌}
use Rattle.std.specs.Vec.{vec_capacity}
use Rattle.mem_slot.specs.Tapes.{note_of}
use Rattle.mem_slot.proofs.Taping.{pushed_bare, stopped_fits}
use Rattle.mem_slot.proofs.tape.Tape.end.Goals as goal

pub invariant_of-self : goal.invariant_of-self
invariant_of-self c =
    let tape = c.self.inside in
    let runs = ap (λ t. t.running) c.self.view_is ∙ c.requires.running in
    (stopped_fits tape.stamps.items c.push_reserved.new.self.items c.args.stamp tape.bytes.items tape.late tape.running (vec_capacity tape.stamps) (vec_capacity c.push_reserved.new.self) c.self.invariant.0 (c.self.invariant.0.early runs) c.push_reserved.ensures.items c.requires.bare c.push_reserved.ensures.capacity, c.self.invariant.1)

pub returns : goal.returns
returns c =
    let tape = c.self.inside in
    let runs = ap (λ t. t.running) c.self.view_is ∙ c.requires.running in
    pushed_bare tape.stamps.items c.push_reserved.new.self.items c.args.stamp tape.bytes.items tape.late tape.running false (vec_capacity tape.stamps) (vec_capacity c.push_reserved.new.self) tape.room c.self.invariant.0 (c.self.invariant.0.early runs) c.push_reserved.ensures.items c.requires.bare c.push_reserved.ensures.capacity
    ∙ ap (λ t. record { log = t.log ++ note_of c.args.stamp [] ∷ []; running = false; notes_left = t.notes_left - 1; bytes_left = t.bytes_left }) c.self.view_is
