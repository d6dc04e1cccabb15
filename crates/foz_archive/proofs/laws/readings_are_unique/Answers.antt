use Rattle.foz_archive.proofs.Unique.{IsReadingAs-unique, IsRefusedAs-unique, never_both, Holds-unique}
use Rattle.foz_archive.proofs.laws.readings_are_unique.Goals as goal

pub returns : goal.returns
returns c = record { one_reading = IsReadingAs-unique; one_refusal = IsRefusedAs-unique; never_both = never_both; one_content = Holds-unique }
