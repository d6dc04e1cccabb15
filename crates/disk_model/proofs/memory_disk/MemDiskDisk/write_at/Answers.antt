use Rattle.std.proofs.Common.{◌≡◌, length, sym, ◌∙◌, ap, arith}
use Rattle.disk_model.specs.Disk.{DiskState, after_write}
use Rattle.disk_model.specs.Memory.{state_of}
use Rattle.disk_model.specs.declared.call.Call.TheVariants.{Write}
use Rattle.disk_model.proofs.Images.{write_keeps_image}
use Rattle.disk_model.proofs.Kept.{Grown, grown_state, grown_full, grown_history, grown_latest, image_at, written_state, write_call}
use Rattle.disk_model.specs.Latest.{latest_is}
use Rattle.disk_model.proofs.memory_disk.MemDiskDisk.write_at.Goals as goal

pub invariant_of-self-clause-state : goal.invariant_of-self-clause-state
invariant_of-self-clause-state c =
    let m = c.args.self.now in
    let grown : Grown (Write c.args.at (length c.args.piece.now)) c.args.piece.now m.calls.items c.push_within-2.new.list.items m.pieces.items c.extend_within.new.list.items =
    record { calls_are = c.push_within-2.ensures.items; pieces_are = c.extend_within.ensures.items; full = m.full; size = omega arith } in
    grown_state grown _ _ m.state ∙ write_call _ c.args.at c.args.piece.now
    ∙ written_state m.bytes.items m.base.items m.least m.greatest m.written.items c.args.at c.args.piece.now _ _ _ c.overwrite.ensures.items c.max-self.ensures c.push_within.ensures.items

pub invariant_of-self-clause-image : goal.invariant_of-self-clause-image
invariant_of-self-clause-image c =
    let m = c.args.self.now in
    image_at _ _ _ _
    (written_state m.bytes.items m.base.items m.least m.greatest m.written.items c.args.at c.args.piece.now _ _ _ c.overwrite.ensures.items c.max-self.ensures c.push_within.ensures.items)
    (sym c.overwrite.ensures.items)
    (write_keeps_image (state_of m.bytes.items m.base.items m.least m.greatest m.written.items) c.args.at c.args.piece.now m.image c.requires.within)

pub invariant_of-self-clause-full : goal.invariant_of-self-clause-full
invariant_of-self-clause-full c =
    let m = c.args.self.now in
    let grown : Grown (Write c.args.at (length c.args.piece.now)) c.args.piece.now m.calls.items c.push_within-2.new.list.items m.pieces.items c.extend_within.new.list.items =
    record { calls_are = c.push_within-2.ensures.items; pieces_are = c.extend_within.ensures.items; full = m.full; size = omega arith } in
    grown_full grown

pub returns-clause-images : goal.returns-clause-images
returns-clause-images c =
    let m = c.args.self.now in
    let grown : Grown (Write c.args.at (length c.args.piece.now)) c.args.piece.now m.calls.items c.push_within-2.new.list.items m.pieces.items c.extend_within.new.list.items =
    record { calls_are = c.push_within-2.ensures.items; pieces_are = c.extend_within.ensures.items; full = m.full; size = omega arith } in
    let counted : length m.calls.items ≡ m.made = m.counted.0 (c.fails_now.ensures.within c.if-fails_now.false) in
    let before = latest_is m.first.items m.calls.items m.pieces.items m.made m.counted.1 in
    record {
      call = grown_history grown m.first.items m.made counted;
      ok = grown_latest grown m.first.items m.made counted _ m.state ∙ write_call _ c.args.at c.args.piece.now ∙ ap (λ (s : DiskState). after_write s c.args.at c.args.piece.now) (sym (before ∙ m.state));
      err = tt;
    }
