use Rattle.foz_archive.proofs.Standing.{accepted_ends, accepted_within, accepted_sized}
use Rattle.foz_archive.proofs.laws.entries_are_bounded.Goals as goal

pub returns : goal.returns
returns c = record {
  end = accepted_ends;
  within = accepted_within;
  near = λ versions file entries end accepted. accepted.near;
  few = λ versions file entries end accepted. accepted.few;
  sized = accepted_sized;
}
