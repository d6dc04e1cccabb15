use Rattle.std.proofs.Common.{List, ℕ, sym, subst, append_assoc, arith}
use Rattle.foz_crc.specs.Crc32.{crc32_of}
use Rattle.foz_entry.specs.Spelling.{head_text, head_of}
use Rattle.foz_entry.specs.Whole.{IsWhole}
use Rattle.foz_entry.proofs.Names.{spelled_whole}
use Rattle.foz_entry.proofs.spelled.write_entry.Goals as goal

pub returns-clause-whole : goal.returns-clause-whole
returns-clause-whole c = λ rest.
    let key = c.args.key in
    let payload = c.args.payload.now in
    subst (λ (bytes : List ℕ). IsWhole bytes (head_of key payload) payload rest) (sym (append_assoc (head_text (head_of key payload)) payload rest))
    (spelled_whole key (crc32_of payload) payload rest (omega arith) (omega arith) (omega (arith, c.crc32.ensures)) (omega arith))
