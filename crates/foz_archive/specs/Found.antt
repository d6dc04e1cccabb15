-- What the row of entries after a header is found to be.
use Rattle.std.specs.Prelude.{◌≡◌, ℕ, ◌<◌, ◌≤◌, List, length, drop}
use Rattle.foz_entry.specs.declared.cut.Entry.{Entry}
use Rattle.foz_entry.specs.Limits.{header_len, count_limit}
use Rattle.foz_archive.specs.declared.scanned.Found.{Found}
use Rattle.foz_archive.specs.declared.scanned.Found.TheVariants.{Few, TooMany}
use Rattle.foz_archive.specs.Reading.{Stand, is_clean}

-- the file has these entries after its header, or too many that end there
abbrev pub IsFound : List ℕ → Found → Type 0
IsFound file (Few entries end clean) = Stand header_len (drop header_len file) entries end × (length entries ≤ count_limit) × (clean ≡ is_clean (drop end file))
IsFound file (TooMany end) = (entries : List Entry) × Stand header_len (drop header_len file) entries end × (count_limit < length entries)
