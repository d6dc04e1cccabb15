use Rattle.std.proofs.Common.{◌++◌, refl, ◌∙◌, ap}
use Rattle.disk_model.specs.declared.call.Call.TheVariants.{Sync}
use Rattle.disk_model.proofs.Images.{fresh_image}
use Rattle.disk_model.proofs.Kept.{grown_by, grown_state, grown_full, image_at, synced_state}
use Rattle.disk_model.proofs.memory_disk.MemDiskDisk.sync.Goals as goal

pub invariant_of-self-clause-state : goal.invariant_of-self-clause-state
invariant_of-self-clause-state c =
    let m = c.args.self.now in
    let base_is = c.extend_within.ensures.items ∙ ap (λ l. l ++ c.deref.result.now) c.clear.ensures.items ∙ c.deref.ensures.value in
    grown_state (grown_by Sync m.calls.items c.push_within.new.list.items m.pieces.items c.push_within.ensures.items m.full refl) _ _ m.state
    ∙ synced_state m.bytes.items _ _ _ _ base_is (c.len-self.ensures ∙ m.bytes.ok.0) (c.len-self-2.ensures ∙ m.bytes.ok.0) c.clear-2.ensures.items

pub invariant_of-self-clause-image : goal.invariant_of-self-clause-image
invariant_of-self-clause-image c =
    let m = c.args.self.now in
    let base_is = c.extend_within.ensures.items ∙ ap (λ l. l ++ c.deref.result.now) c.clear.ensures.items ∙ c.deref.ensures.value in
    image_at _ _ m.bytes.items m.bytes.items (synced_state m.bytes.items _ _ _ _ base_is (c.len-self.ensures ∙ m.bytes.ok.0) (c.len-self-2.ensures ∙ m.bytes.ok.0) c.clear-2.ensures.items) refl
    (fresh_image m.bytes.items)

pub invariant_of-self-clause-full : goal.invariant_of-self-clause-full
invariant_of-self-clause-full c =
    let m = c.args.self.now in
    grown_full (grown_by Sync m.calls.items c.push_within.new.list.items m.pieces.items c.push_within.ensures.items m.full refl)
