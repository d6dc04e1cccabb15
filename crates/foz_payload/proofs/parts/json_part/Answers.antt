use Rattle.std.proofs.Common.{sym, ◌∙◌}
use Rattle.foz_payload.proofs.FirstZero.{part_before, part_all}
use Rattle.foz_payload.proofs.parts.json_part.Goals as goal

pub returns-in-Some : goal.returns-in-Some
returns-in-Some c = part_before c.args.payload.now c.in-Some.place (sym c.zero_in.ensures ∙ c.in-Some.is)

pub returns-in-None : goal.returns-in-None
returns-in-None c = part_all c.args.payload.now (sym c.zero_in.ensures ∙ c.in-None.is)
