use Rattle.turn_desk.proofs.Calls.{adds, others_after}
use Rattle.turn_desk.proofs.laws.turns_add_own_notes.Goals as goal

pub returns-clause-turn : goal.returns-clause-turn
returns-clause-turn g c = adds g.V.Kept.number

pub returns-clause-rest : goal.returns-clause-rest
returns-clause-rest g c = others_after g.V.Kept.number
