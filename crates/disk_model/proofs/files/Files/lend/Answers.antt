use Rattle.std.proofs.Common.{None, [], ◌∷◌, ◌++◌, string_bytes, sym, ◌∙◌, ap}
use Rattle.disk_model.specs.Place.{stored}
use Rattle.disk_model.specs.Filed.{held}
use Rattle.disk_model.proofs.Filed.{list_any-from_none, spelled, found_slot, no_slot, found_file, no_file, without_file, taken_some, taken_none, slot_out, slot_pushed}
use Rattle.disk_model.proofs.files.Files.lend.Goals as goal

pub returns-in-Some-clause-lent : goal.returns-in-Some-clause-lent
returns-in-Some-clause-lent g c =
    let m = c.args.self.now in
    let found = found_slot string_bytes m.slots.items m.given.items c.args.name.now c.in-Some.at c.index_mut.result.now (rw c.deref.ensures.value at (sym c.place_of.ensures ∙ c.in-Some.is)) in
    taken_some _ c.index_mut.result.now.1 c.take-held.result c.take-held.ensures.value (found ∙ ap (λ slot. held slot.1) (sym c.index_mut.ensures.value))

pub returns-in-Some-clause-now_out : goal.returns-in-Some-clause-now_out
returns-in-Some-clause-now_out g c =
    let m = c.args.self.now in
    slot_out string_bytes m.slots.items m.given.items c.args.name.now c.in-Some.at c.index_mut.result.now c.take-held.result c.take-held.new.self c.take-held.ensures.after
    (rw c.deref.ensures.value at (sym c.place_of.ensures ∙ c.in-Some.is)) c.index_mut.ensures.value

pub returns-in-Some-clause-none : goal.returns-in-Some-clause-none
returns-in-Some-clause-none g c =
    let m = c.args.self.now in
    let found = found_slot string_bytes m.slots.items m.given.items c.args.name.now c.in-Some.at c.index_mut.result.now (rw c.deref.ensures.value at (sym c.place_of.ensures ∙ c.in-Some.is)) in
    taken_none _ _ c.index_mut.result.now.1 c.take-held.result c.take-held.ensures.value (found ∙ ap (λ slot. held slot.1) (sym c.index_mut.ensures.value)) c.requires.here

pub returns-in_default-place_of-clause-none : goal.returns-in_default-place_of-clause-none
returns-in_default-place_of-clause-none g c =
    let m = c.args.self.now in
    no_slot string_bytes m.slots.items m.given.items c.args.name.now (rw c.deref.ensures.value at (sym c.place_of.ensures ∙ c.in_default.is))
    ∙ no_file string_bytes m.given.items c.args.name.now (rw c.deref-2.ensures.value at (sym c.place_of-2.ensures ∙ c.in_default-place_of.is))

pub returns-clause-lent : goal.returns-clause-lent
returns-clause-lent g c =
    let m = c.args.self.now in
    no_slot string_bytes m.slots.items m.given.items c.args.name.now (rw c.deref.ensures.value at (sym c.place_of.ensures ∙ c.in_default.is))
    ∙ found_file string_bytes m.given.items c.args.name.now c.in-Some-place_of.at c.remove-own.result (rw c.deref-2.ensures.value at (sym c.place_of-2.ensures ∙ c.in-Some-place_of.is))
    ∙ ap (λ file. stored file.1) (sym c.remove-own.ensures.value)

pub returns-clause-now_out : goal.returns-clause-now_out
returns-clause-now_out g c =
    let m = c.args.self.now in
    let own = c.remove-own.result.0 in
    let found = rw c.deref-2.ensures.value at (sym c.place_of-2.ensures ∙ c.in-Some-place_of.is) in
    slot_pushed string_bytes m.slots.items c.push_within.new.list.items m.given.items c.remove-own.new.self.items c.args.name.now own
    (c.push_within.ensures.items ∙ ap (λ slots. slots ++ (own, None) ∷ []) c.try_reserve.ensures.items)
    (ap (λ file. string_bytes file.0) c.remove-own.ensures.value ∙ spelled string_bytes m.given.items c.args.name.now c.in-Some-place_of.at c.remove-own.result found)
    (list_any-from_none _ m.slots.items (rw c.deref.ensures.value at (sym c.place_of.ensures ∙ c.in_default.is)))
    (λ other apart. rw c.remove-own.ensures.items (without_file string_bytes m.given.items c.args.name.now c.in-Some-place_of.at c.remove-own.result found other apart))
