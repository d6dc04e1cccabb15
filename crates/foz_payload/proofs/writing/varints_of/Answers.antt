use Rattle.std.proofs.Common.{ℕ, ◌<◌, ◌^◌, subst, arith}
use Rattle.std.proofs.lemmas.List.{get_or_default}
use Rattle.foz_payload.proofs.writing.varints_of.Goals as goal

pub returns-clause-in_range : goal.returns-clause-in_range
returns-clause-in_range c k d inside =
    subst (λ (word : ℕ). word < 2 ^ 32) (get_or_default c.args.words.now k 0 d inside) (omega (arith, c.type_inv.words k))
