use Rattle.std.proofs.Common.{refl}
use Rattle.disk_model.specs.declared.call.Call.TheVariants.{Quiet}
use Rattle.disk_model.proofs.Kept.{grown_by, grown_state, grown_full}
use Rattle.disk_model.proofs.memory_disk.MemDisk.rest.Goals as goal

pub invariant_of-self-clause-state : goal.invariant_of-self-clause-state
invariant_of-self-clause-state c = c.args.self.now.state

pub invariant_of-self-2-clause-state : goal.invariant_of-self-2-clause-state
invariant_of-self-2-clause-state c =
    let m = c.args.self.now in
    grown_state (grown_by Quiet m.calls.items c.push_within.new.list.items m.pieces.items c.push_within.ensures.items m.full refl) _ _ m.state

pub invariant_of-self-2-clause-full : goal.invariant_of-self-2-clause-full
invariant_of-self-2-clause-full c =
    let m = c.args.self.now in
    grown_full (grown_by Quiet m.calls.items c.push_within.new.list.items m.pieces.items c.push_within.ensures.items m.full refl)
