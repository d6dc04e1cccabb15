use Rattle.json_fold.proofs.HexIsText.{hex_is_text}
use Rattle.json_fold.proofs.digits.hash_text.Goals as goal

pub unreachable-requires : goal.unreachable-requires
unreachable-requires c = c.in-Err.ensures.cases.0 (rw c.hex16-digits.ensures (hex_is_text 16 c.args.hash))
