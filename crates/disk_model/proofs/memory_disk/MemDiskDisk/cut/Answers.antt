use Rattle.std.proofs.Common.{refl, sym, ◌∙◌}
use Rattle.disk_model.specs.Memory.{state_of}
use Rattle.disk_model.specs.declared.call.Call.TheVariants.{Cut}
use Rattle.disk_model.proofs.Images.{cut_keeps_image}
use Rattle.disk_model.proofs.Kept.{grown_by, grown_state, grown_full, image_at}
use Rattle.disk_model.proofs.memory_disk.MemDiskDisk.cut.Goals as goal

pub invariant_of-self-clause-state : goal.invariant_of-self-clause-state
invariant_of-self-clause-state c =
    let m = c.args.self.now in
    grown_state (grown_by (Cut c.args.len) m.calls.items c.push_within.new.list.items m.pieces.items c.push_within.ensures.items m.full refl) _ _ m.state
    ∙ (λ i. state_of (sym c.truncate.ensures.items i) m.base.items (sym c.min-self.ensures i) m.greatest m.written.items)

pub invariant_of-self-clause-image : goal.invariant_of-self-clause-image
invariant_of-self-clause-image c =
    let m = c.args.self.now in
    image_at _ _ _ _ (λ i. state_of (sym c.truncate.ensures.items i) m.base.items (sym c.min-self.ensures i) m.greatest m.written.items) (sym c.truncate.ensures.items)
    (cut_keeps_image (state_of m.bytes.items m.base.items m.least m.greatest m.written.items) c.args.len m.image c.requires.within)

pub invariant_of-self-clause-full : goal.invariant_of-self-clause-full
invariant_of-self-clause-full c =
    let m = c.args.self.now in
    grown_full (grown_by (Cut c.args.len) m.calls.items c.push_within.new.list.items m.pieces.items c.push_within.ensures.items m.full refl)
