use Rattle.std.proofs.Common.{None, [], ◌∷◌, ◌++◌, string_bytes, refl, ◌∙◌, ap}
use Rattle.disk_model.proofs.Filed.{slot_pushed, missing_no_slot}
use Rattle.disk_model.proofs.files.Files.add_out.Goals as goal

pub returns-clause-now_out : goal.returns-clause-now_out
returns-clause-now_out g c =
    let m = c.args.self.now in
    slot_pushed string_bytes m.slots.items c.push_within.new.list.items m.given.items m.given.items c.args.name.now c.in_ok-own.own
    (c.push_within.ensures.items ∙ ap (λ slots. slots ++ (c.in_ok-own.own, None) ∷ []) c.try_reserve.ensures.items) c.in_ok-own.ensures.ok
    (missing_no_slot string_bytes m.slots.items m.given.items c.args.name.now c.requires.new) (λ other apart. refl)
