use Rattle.std.proofs.Common.{◌+◌, ◌-◌, drop, length, sym, ◌∙◌, arith}
use Rattle.std.proofs.lemmas.List.{take_all, length-drop}
use Rattle.foz_payload.proofs.FirstZero.{part_before, part_behind, with_zero, without_zero}
use Rattle.foz_payload.proofs.parts.parts.Goals as goal

pub returns-in-Some-clause-some : goal.returns-in-Some-clause-some
returns-in-Some-clause-some c =
    let bytes = c.args.payload.now in
    let k = c.in-Some.place in
    let found = sym c.zero_in.ensures ∙ c.in-Some.is in
    (with_zero bytes k found, part_before bytes k found, take_all (length bytes - (k + 1)) (drop (k + 1) bytes) (omega (arith, length-drop (k + 1) bytes)) ∙ part_behind bytes k found)

pub returns-in-None-clause-none : goal.returns-in-None-clause-none
returns-in-None-clause-none c = without_zero c.args.payload.now (sym c.zero_in.ensures ∙ c.in-None.is)
