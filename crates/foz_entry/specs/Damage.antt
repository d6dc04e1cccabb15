-- Which entries are damaged.
use Rattle.std.specs.Prelude.{ℕ, ◌==◌, ◌||◌, nat_le, if◌then◌else◌, List, Option, Some, None, Result, Ok, Err}
use Rattle.foz_crc.specs.Crc32.{crc32_of}
use Rattle.foz_entry.specs.declared.cut.Cut.{Cut}
use Rattle.foz_entry.specs.declared.damage.EntryCause.{EntryCause}
use Rattle.foz_entry.specs.Limits.{payload_limit}
use Rattle.foz_entry.specs.declared.damage.EntryCause.TheVariants.{Deflate, BadFormat, TooLarge, SizeDiffers, BadChecksum}

-- a checksum of 0 says nothing
abbrev pub checksum_damage : ℕ → ℕ → Option EntryCause
checksum_damage stated found = if (stated == 0) || (stated == found) then None else Some (BadChecksum stated found)

-- the first damage of an entry with this payload, if it has one
abbrev pub damage : Cut → List ℕ → Option EntryCause
damage head payload =
    if head.format == 2 then Some Deflate
    else if head.format == 1 then
    (if nat_le head.size payload_limit then
    (if head.size == head.uncompressed then checksum_damage head.crc (crc32_of payload)
    else Some (SizeDiffers head.size head.uncompressed))
    else Some (TooLarge head.size))
    else Some (BadFormat head.format)

abbrev pub ok_unless : Option EntryCause → Result (Unit {0}) EntryCause
ok_unless None = Ok tt
ok_unless (Some cause) = Err cause
