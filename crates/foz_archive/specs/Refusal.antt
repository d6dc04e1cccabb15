-- Why a file is no archive that is read, or none that may be written.
use Rattle.std.specs.Prelude.{◌≡◌, ◌⊎◌, ℕ, false, ◌+◌, ◌-◌, ◌<◌, ◌≤◌, List, ◌++◌, length, take, drop, slice_index, replicate}
use Rattle.foz_entry.specs.declared.cut.Entry.{Entry}
use Rattle.foz_entry.specs.Limits.{header_len, end_limit, count_limit}
use Rattle.foz_archive.specs.declared.refusal.ArchiveError.{ArchiveError}
use Rattle.foz_archive.specs.declared.refusal.ArchiveError.TheVariants.{BadMagic, BadVersion, TooLong, TooMany}
use Rattle.foz_archive.specs.declared.refusal.ScanError.{ScanError}
use Rattle.foz_archive.specs.declared.refusal.ScanError.TheVariants as scan_errors
use Rattle.foz_archive.specs.declared.refusal.ReadError.{ReadError}
use Rattle.foz_archive.specs.declared.refusal.ReadError.TheVariants as read_errors
use Rattle.foz_archive.specs.Reading.{HasMagic, HasHeader, Stand, is_one_of, reading, writing}

-- the first sixteen bytes, with zeros for those that are missing
unfoldable pub first_bytes : List ℕ → List ℕ
first_bytes bytes = take header_len bytes ++ replicate (header_len - length bytes) 0

-- the entries in a row after the header of the file, too many of them or not
pub record Standing (file : List ℕ) : Type 0 where
  pub entries : List Entry
  pub end : ℕ
  pub stand : Stand header_len (drop header_len file) entries end

-- Each reason, where those before it don't hold.
pub record IsBadMagic (file : List ℕ) (len : ℕ) (bytes : List ℕ) : Type 0 where
  pub no_magic : ¬ HasMagic file
  pub len_is : len ≡ length file
  pub bytes_are : bytes ≡ first_bytes file

pub record IsBadVersion (versions file : List ℕ) (version : ℕ) : Type 0 where
  pub has_magic : HasMagic file
  pub version_is : version ≡ slice_index file 15
  pub other : is_one_of versions version ≡ false

pub record IsTooLong (versions file : List ℕ) (len : ℕ) : Type 0 where
  pub begins : HasHeader versions file
  pub len_is : len ≡ length file
  pub long : (end_limit + 1 < length file) ⊎ ((standing : Standing file) × (end_limit < standing.end))

pub record HasTooMany (versions file : List ℕ) : Type 0 where
  pub begins : HasHeader versions file
  pub short : length file ≤ end_limit + 1
  pub standing : Standing file
  pub near : standing.end ≤ end_limit
  pub many : count_limit < length standing.entries

-- the first reason why the file is no archive of one of these versions is this one
abbrev pub IsRefusedAs : List ℕ → List ℕ → ArchiveError → Type 0
IsRefusedAs versions file (BadMagic len bytes) = IsBadMagic file len bytes
IsRefusedAs versions file (BadVersion version) = IsBadVersion versions file version
IsRefusedAs versions file (TooLong len) = IsTooLong versions file len
IsRefusedAs versions file TooMany = HasTooMany versions file

-- the file isn't read for this reason, and the same for a file that is to be written
abbrev pub IsRefusedBy : List ℕ → ArchiveError → Type 0
IsRefusedBy file error = IsRefusedAs reading file error

abbrev pub IsRefusedToWrite : List ℕ → ArchiveError → Type 0
IsRefusedToWrite file error = IsRefusedAs writing file error

-- the file is refused for this reason, or there was no memory to read it
abbrev pub IsUnreadAs : List ℕ → List ℕ → ScanError → Type 0
IsUnreadAs versions file (scan_errors.Archive error) = IsRefusedAs versions file error
IsUnreadAs versions file scan_errors.Memory = Unit {0}

abbrev pub IsUnread : List ℕ → ScanError → Type 0
IsUnread file error = IsUnreadAs reading file error

-- the disk with this content is refused for this reason, or it failed, or there was no memory to read it
abbrev pub IsUnreadDiskAs : List ℕ → List ℕ → ReadError → Type 0
IsUnreadDiskAs versions content read_errors.DiskFault = Unit {0}
IsUnreadDiskAs versions content (read_errors.Archive error) = IsRefusedAs versions content error
IsUnreadDiskAs versions content read_errors.Memory = Unit {0}

abbrev pub IsUnreadDisk : List ℕ → ReadError → Type 0
IsUnreadDisk content error = IsUnreadDiskAs reading content error

abbrev pub read_error_of : ScanError → ReadError
read_error_of (scan_errors.Archive error) = read_errors.Archive error
read_error_of scan_errors.Memory = read_errors.Memory
