-- What a push does, and why it is refused.
use Rattle.std.specs.Prelude.{◌≡◌, ℕ, ◌+◌, ◌<◌, ◌≤◌, [], ◌∷◌, ◌++◌}
use Rattle.foz_entry.specs.declared.cut.Entry.{Entry}
use Rattle.foz_entry.specs.Limits.{head_len, payload_limit, end_limit, count_limit}
use Rattle.foz_archive.specs.Kept.{Archived}
use Rattle.foz_archive.specs.declared.push.PushError.{PushError}
use Rattle.foz_archive.specs.declared.push.PushError.TheVariants.{TooLarge, Full, TooMany, Memory}

-- the archive with one entry more, which waits
abbrev pub with_entry : {D : Type 0} → Archived D → Entry → Archived D
with_entry archive entry = record {
  disk = archive.disk;
  entries = archive.entries ++ entry ∷ [];
  flushed = archive.flushed;
  flushed_end = archive.flushed_end;
  end = archive.end + entry.head.total;
  broken = archive.broken;
}

-- a new entry has room
pub record HasRoom (end count size : ℕ) : Type 0 where
  pub small : size ≤ payload_limit
  pub near : end + (head_len + size) ≤ end_limit
  pub few : count < count_limit

-- why a new entry has no room: the first of these reasons
abbrev pub HasNoRoom : ℕ → ℕ → ℕ → PushError → Type 0
HasNoRoom end count size (TooLarge is) = (is ≡ size) × (payload_limit < size)
HasNoRoom end count size (Full at need) = (at ≡ end) × (need ≡ head_len + size) × (size ≤ payload_limit) × (end_limit < end + need)
HasNoRoom end count size (TooMany is) = (is ≡ count) × (size ≤ payload_limit) × (end + (head_len + size) ≤ end_limit) × (count_limit ≤ count)
HasNoRoom end count size Memory = ⊥

-- why a new entry is refused: it has no room, or else there was no memory
abbrev pub IsRefusal : ℕ → ℕ → ℕ → PushError → Type 0
IsRefusal end count size (TooLarge is) = HasNoRoom end count size (TooLarge is)
IsRefusal end count size (Full at need) = HasNoRoom end count size (Full at need)
IsRefusal end count size (TooMany is) = HasNoRoom end count size (TooMany is)
IsRefusal end count size Memory = HasRoom end count size
