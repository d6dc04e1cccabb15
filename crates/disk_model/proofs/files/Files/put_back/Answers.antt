use Rattle.std.proofs.Common.{Some, set, string_bytes, sym, ◌∙◌, ap}
use Rattle.disk_model.specs.Filed.{place_in}
use Rattle.disk_model.proofs.Filed.{slot_set, no_slot, nothing_out}
use Rattle.disk_model.proofs.files.Files.put_back.Goals as goal

pub returns-in-Some : goal.returns-in-Some
returns-in-Some g c =
    let m = c.args.self.now in
    ap (λ slot. place_in string_bytes (set m.slots.items c.in-Some.at (slot.0, Some c.args.file)) m.given.items) c.index_mut.ensures.value
    ∙ slot_set string_bytes m.slots.items m.given.items c.args.name.now c.in-Some.at c.index_mut.result.now (Some c.args.file) (rw c.deref.ensures.value at (sym c.place_of.ensures ∙ c.in-Some.is))

pub returns-in_default : goal.returns-in_default
returns-in_default g c =
    let m = c.args.self.now in
    let past = no_slot string_bytes m.slots.items m.given.items c.args.name.now (rw c.deref.ensures.value at (sym c.place_of.ensures ∙ c.in_default.is)) in
    absurd (nothing_out string_bytes m.given.items c.args.name.now (sym past ∙ c.requires.was_out))
