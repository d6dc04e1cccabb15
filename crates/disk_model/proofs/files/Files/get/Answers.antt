use Rattle.std.proofs.Common.{string_bytes, sym, ◌∙◌, ap}
use Rattle.disk_model.specs.Place.{stored}
use Rattle.disk_model.specs.Filed.{held}
use Rattle.disk_model.proofs.Filed.{found_slot, no_slot, found_file, no_file, lent_some, lent_none, missing_not_stored}
use Rattle.disk_model.proofs.files.Files.get.Goals as goal

pub returns-in-Some-clause-some : goal.returns-in-Some-clause-some
returns-in-Some-clause-some g c =
    let m = c.args.self.now in
    let found = found_slot string_bytes m.slots.items m.given.items c.args.name.now c.in-Some.at c.index.result.now (rw c.deref.ensures.value at (sym c.place_of.ensures ∙ c.in-Some.is)) in
    lent_some _ c.index.result.now.1 c.as_ref.result c.as_ref.ensures.value (found ∙ ap (λ slot. held slot.1) (sym c.index.ensures))

pub returns-in-Some-clause-none : goal.returns-in-Some-clause-none
returns-in-Some-clause-none g c =
    let m = c.args.self.now in
    let found = found_slot string_bytes m.slots.items m.given.items c.args.name.now c.in-Some.at c.index.result.now (rw c.deref.ensures.value at (sym c.place_of.ensures ∙ c.in-Some.is)) in
    lent_none _ c.index.result.now.1 c.as_ref.result c.as_ref.ensures.value (found ∙ ap (λ slot. held slot.1) (sym c.index.ensures))

pub returns-in_err-at-clause-none : goal.returns-in_err-at-clause-none
returns-in_err-at-clause-none g c =
    let m = c.args.self.now in
    let past = no_slot string_bytes m.slots.items m.given.items c.args.name.now (rw c.deref.ensures.value at (sym c.place_of.ensures ∙ c.in_default.is)) in
    rw c.from_residual.ensures (missing_not_stored _ (past ∙ no_file string_bytes m.given.items c.args.name.now (rw c.deref-2.ensures.value at (sym c.place_of-2.ensures ∙ c.in_err-at.was))))

pub returns-clause-some : goal.returns-clause-some
returns-clause-some g c =
    let m = c.args.self.now in
    let past = no_slot string_bytes m.slots.items m.given.items c.args.name.now (rw c.deref.ensures.value at (sym c.place_of.ensures ∙ c.in_default.is)) in
    past ∙ found_file string_bytes m.given.items c.args.name.now c.in_ok-at.at c.index-2.result.now (rw c.deref-2.ensures.value at (sym c.place_of-2.ensures ∙ c.in_ok-at.was))
    ∙ ap (λ file. stored file.1) (sym c.index-2.ensures)
