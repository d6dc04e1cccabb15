use Rattle.foz_archive.specs.Reading.{magic}
use Rattle.foz_archive.proofs.Fronts.{has_magic_is}
use Rattle.foz_archive.proofs.header.has_magic.Goals as goal

pub returns-then-bytes-ge-HEADER_LEN : goal.returns-then-bytes-ge-HEADER_LEN
unfolding magic
returns-then-bytes-ge-HEADER_LEN c = has_magic_is c.args.bytes.now c.starts_with.result c.if-bytes-ge-HEADER_LEN.true c.starts_with.ensures.value
