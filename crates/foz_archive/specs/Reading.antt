-- What stands in an archive.
use Rattle.std.specs.Prelude.{◌≡◌, ◌⊎◌, ℕ, zero, suc, Bool, true, false, ◌+◌, ◌==◌, ◌≤◌, List, [], ◌∷◌, ◌++◌, length, take, drop, slice_index, codes}
use Rattle.std.specs.List.{list_any}
use Rattle.foz_entry.specs.declared.cut.Cut.{Cut}
use Rattle.foz_entry.specs.declared.cut.Entry.{Entry}
use Rattle.foz_entry.specs.Limits.{header_len, end_limit, count_limit}
use Rattle.foz_entry.specs.Whole.{IsWhole}
use Rattle.foz_archive.specs.declared.scanned.Scanned.{Scanned}

-- a header is these bytes, and then the byte of its version
unfoldable pub magic : List ℕ
magic = 0x81 ∷ codes "FOSSILIZEDB" ++ (0 ∷ 0 ∷ 0 ∷ [])

-- the versions that are read, and the one that is written
abbrev pub reading : List ℕ
reading = 6 ∷ []

abbrev pub written : ℕ
written = 6

abbrev pub writing : List ℕ
writing = written ∷ []

-- the header of a file that is written
unfoldable pub header : List ℕ
header = magic ++ written ∷ []

abbrev pub is_one_of : List ℕ → ℕ → Bool
is_one_of versions version = list_any (λ known. known == version) versions

-- the file has a header, of any version
pub record HasMagic (file : List ℕ) : Type 0 where
  pub long : header_len ≤ length file
  pub begins : take 15 file ≡ magic

-- the file has a header of one of these versions
pub record HasHeader (versions file : List ℕ) : Type 0 where
  pub has_magic : HasMagic file
  pub known : is_one_of versions (slice_index file 15) ≡ true

-- no whole entry stands at the beginning
abbrev pub BeginsWithNone : List ℕ → Type 0
BeginsWithNone bytes = (head : Cut) (payload rest : List ℕ) → IsWhole bytes head payload rest → ⊥

-- from a place on, the bytes are these whole entries in a row up to the end, and then begin with no whole entry
abbrev pub Stand : ℕ → List ℕ → List Entry → ℕ → Type 0
Stand place bytes [] end = (place ≡ end) × BeginsWithNone bytes
Stand place bytes (entry ∷ entries) end =
    (entry.offset ≡ place) × ((rest : List ℕ) × IsWhole bytes entry.head entry.payload rest × Stand (place + entry.head.total) rest entries end)

-- from a place on, the bytes are these whole entries in a row up to the end, and then exactly the rest
abbrev pub InRow : ℕ → List ℕ → List Entry → ℕ → List ℕ → Type 0
InRow place bytes [] end rest = (place ≡ end) × (bytes ≡ rest)
InRow place bytes (entry ∷ entries) end rest =
    (entry.offset ≡ place) × ((after : List ℕ) × IsWhole bytes entry.head entry.payload after × InRow (place + entry.head.total) after entries end rest)

-- after a header of one of these versions the entries stand in a row
pub record Reads (versions file : List ℕ) (entries : List Entry) (end : ℕ) : Type 0 where
  pub begins : HasHeader versions file
  pub stand : Stand header_len (drop header_len file) entries end

-- the entries are those of an archive of one of these versions that isn't too long and hasn't too many
pub record IsAcceptedAs (versions file : List ℕ) (entries : List Entry) (end : ℕ) : Type 0 where
  pub reads : Reads versions file entries end
  pub short : length file ≤ end_limit + 1
  pub near : end ≤ end_limit
  pub few : length entries ≤ count_limit

-- the same of an archive that may be written
abbrev pub IsAccepted : List ℕ → List Entry → ℕ → Type 0
IsAccepted file entries end = IsAcceptedAs writing file entries end

-- Some file that may be written is an archive of these entries, which end there. So they are few enough and near enough,
-- and each has a payload of the size that its head states.
pub record SomeFileHolds (entries : List Entry) (end : ℕ) : Type 0 where
  pub file : List ℕ
  pub accepted : IsAccepted file entries end

-- nothing stands after the entries, or the byte 0 that closes a file
abbrev pub is_clean : List ℕ → Bool
is_clean [] = true
is_clean (zero ∷ []) = true
is_clean (suc byte ∷ []) = false
is_clean (first ∷ second ∷ rest) = false

-- what is read of a file of one of these versions
pub record IsReadingAs (versions file : List ℕ) (scanned : Scanned) : Type 0 where
  pub accepted : IsAcceptedAs versions file scanned.entries scanned.end
  pub length : scanned.length ≡ length file
  pub clean : scanned.clean ≡ is_clean (drop scanned.end file)

-- what is read of a file
abbrev pub IsReading : List ℕ → Scanned → Type 0
IsReading file scanned = IsReadingAs reading file scanned

-- This is read of some file, which is the content where that is told.
pub record IsReadOfAs (versions : List ℕ) (tells_content : Type 0) (content : List ℕ) (scanned : Scanned) : Type 0 where
  pub file : List ℕ
  pub is_content : tells_content → file ≡ content
  pub reading : IsReadingAs versions file scanned

abbrev pub IsReadOf : Type 0 → List ℕ → Scanned → Type 0
IsReadOf tells_content content scanned = IsReadOfAs reading tells_content content scanned

-- a file whose header never came to stand, so that nothing can be in it
abbrev pub IsNew : List ℕ → Type 0
IsNew file = (length file ≤ header_len + 1) × (¬ HasHeader writing file)

-- What a file holds to which entries are to be added: new files hold nothing, and files that are refused hold no list at
-- all.
abbrev pub Holds : List ℕ → List Entry → Type 0
Holds file entries = (IsNew file × (entries ≡ [])) ⊎ ((end : ℕ) × IsAccepted file entries end)
