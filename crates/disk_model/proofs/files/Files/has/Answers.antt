use Rattle.std.proofs.Common.{string_bytes}
use Rattle.disk_model.proofs.Filed.{has_slot, has_file}
use Rattle.disk_model.proofs.files.Files.has.Goals as goal

pub returns-then-is_some : goal.returns-then-is_some
returns-then-is_some g c =
    let m = c.args.self.now in
    has_slot string_bytes m.slots.items m.given.items c.args.name.now c.place_of.result c.is_some.result c.is_some.ensures c.if-is_some.true (rw c.deref.ensures.value at c.place_of.ensures)

pub returns-else-is_some : goal.returns-else-is_some
returns-else-is_some g c =
    let m = c.args.self.now in
    has_file string_bytes m.slots.items m.given.items c.args.name.now c.place_of.result c.place_of-else-is_some.result c.is_some.result c.is_some-else-is_some.result c.is_some.ensures c.if-is_some.false
    (rw c.deref.ensures.value at c.place_of.ensures) c.is_some-else-is_some.ensures (rw c.deref-else-is_some.ensures.value at c.place_of-else-is_some.ensures)
