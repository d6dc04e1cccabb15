use Rattle.std.proofs.Common.{arith}
use Rattle.foz_words.proofs.Words.{le64_of_front}
use Rattle.foz_words.proofs.bytes.get_le64.Goals as goal

pub returns-in-len8-up-clause-found : goal.returns-in-len8-up-clause-found
returns-in-len8-up-clause-found c = le64_of_front c.args.bytes.now _ c.in-len8-up.len_at_least (λ i. omega (arith, c.type_inv.bytes i)) c.from_le_bytes.ensures
