use Rattle.std.proofs.Common.{◌≡◌}
use Rattle.foz_archive.proofs.FirstBytes.{filled}
use Rattle.foz_archive.proofs.header.first_bytes.Given as goal

abbrev pub invariant-loop-place : goal.invariant-loop-place
invariant-loop-place l = l.first ≡ filled l.place l.bytes
