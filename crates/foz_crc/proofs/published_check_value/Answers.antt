use Rattle.foz_crc.proofs.Vectors.{crc32-check}
use Rattle.foz_crc.proofs.published_check_value.Goals as goal

pub returns : goal.returns
returns c = crc32-check
