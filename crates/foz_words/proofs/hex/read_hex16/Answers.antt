use Rattle.foz_words.proofs.HexText.{hex16_value_is, hex16_value_none}
use Rattle.foz_words.proofs.hex.read_hex16.Goals as goal

pub returns-then-bytes-eq16-clause-value : goal.returns-then-bytes-eq16-clause-value
returns-then-bytes-eq16-clause-value c = hex16_value_is c.args.bytes.now c.read_hex.result c.if-bytes-eq16.true c.read_hex.ensures

pub returns-else-bytes-eq16-clause-value : goal.returns-else-bytes-eq16-clause-value
returns-else-bytes-eq16-clause-value c = hex16_value_none c.args.bytes.now c.if-bytes-eq16.false
