-- A disk: what its calls do to it, and what a crash may leave of it.
use Rattle.std.specs.Prelude.{◌≡◌, ◌⊎◌, ℕ, ◌+◌, ◌<◌, ◌≤◌, min, max, List, [], ◌∷◌, ◌++◌, length, take, drop, slice_index, Result, OnOk, OnErr}

pub record DiskState : Type 0 where
  -- what reads give
  pub now : List ℕ
  -- what the last sync that succeeded has made durable
  pub base : List ℕ
  -- the least and the greatest length since that sync
  pub least : ℕ
  pub greatest : ℕ
  -- the ranges written since that sync, each as its start and its length
  pub written : List (ℕ × ℕ)

abbrev pub InRange : ℕ × ℕ → ℕ → Type 0
InRange range place = (range.0 ≤ place) × (place < range.0 + range.1)

abbrev pub InSome : List (ℕ × ℕ) → ℕ → Type 0
InSome [] place = ⊥
InSome (range ∷ ranges) place = InRange range place ⊎ InSome ranges place

-- a crash may leave these bytes
pub record IsImage (disk : DiskState) (bytes : List ℕ) : Type 0 where
  pub no_shorter : disk.least ≤ length bytes
  pub no_longer : length bytes ≤ disk.greatest
  pub kept : (place : ℕ) → place < length bytes → place < length disk.base → ¬ InSome disk.written place → slice_index bytes place ≡ slice_index disk.base place

-- a crash leaves what reads give, and nothing else
abbrev pub NothingPending : DiskState → Type 0
NothingPending disk = (bytes : List ℕ) → IsImage disk bytes → bytes ≡ disk.now

-- a disk on which these bytes stand and nothing is pending
abbrev pub fresh : List ℕ → DiskState
fresh bytes = record { now = bytes; base = bytes; least = length bytes; greatest = length bytes; written = [] }

-- these bytes with a piece written over them from a place on, and past their end
abbrev pub overwritten : List ℕ → ℕ → List ℕ → List ℕ
overwritten bytes at piece = take at bytes ++ piece ++ drop (at + length piece) bytes

abbrev pub after_write : DiskState → ℕ → List ℕ → DiskState
after_write disk at piece = record {
  now = overwritten disk.now at piece;
  base = disk.base;
  least = disk.least;
  greatest = max disk.greatest (at + length piece);
  written = disk.written ++ (at, length piece) ∷ [];
}

abbrev pub after_cut : DiskState → ℕ → DiskState
after_cut disk len = record {
  now = take len disk.now;
  base = disk.base;
  least = min disk.least len;
  greatest = disk.greatest;
  written = disk.written;
}

abbrev pub after_sync : DiskState → DiskState
after_sync disk = fresh disk.now

-- a change that failed: it isn't made, or it is, or all of it is but what reads give
abbrev pub MayBeMade : DiskState → DiskState → DiskState → Type 0
MayBeMade old made new = (new ≡ old) ⊎ (new ≡ made) ⊎ (new ≡ record made { now = old.now })

-- The states of a disk at each moment so far. The moment goes on by at most one with each call.
pub record History : Type 0 where
  pub moment : ℕ
  pub at : ℕ → DiskState

abbrev pub latest : History → DiskState
latest history = history.at history.moment

-- a crash at this moment might have left these bytes
abbrev pub WasImage : History → ℕ → List ℕ → Type 0
WasImage history moment bytes = (moment ≤ history.moment) × IsImage (history.at moment) bytes

-- a crash at some moment from this one on might have left these bytes
abbrev pub MightHaveLeft : History → ℕ → List ℕ → Type 0
MightHaveLeft history since bytes = (moment : ℕ) × (since ≤ moment) × WasImage history moment bytes

-- the new history has all moments of the old one
pub record GoesOn (old new : History) : Type 0 where
  pub later : old.moment ≤ new.moment
  pub kept : (moment : ℕ) → moment ≤ old.moment → new.at moment ≡ old.at moment

-- where told: a disk on which nothing was ever written
pub record IsMade (tells_content tells_images : Type 0) (content : List ℕ) (history : History) (faults : ℕ) : Type 0 where
  pub empty : tells_content → content ≡ []
  pub settled : tells_images → NothingPending (latest history)
  pub no_faults : faults ≡ 0

-- one call
pub record OneCall (old new : History) : Type 0 where
  pub goes_on : GoesOn old new
  pub once : new.moment ≤ old.moment + 1

-- a call that changes nothing
pub record Rests (old new : History) : Type 0 where
  pub call : OneCall old new
  pub same : latest new ≡ latest old

-- a call that leads to this state, or failed
pub record Changes {T E : Type 0} (old new : History) (made : DiskState) (result : Result T E) : Type 0 where
  pub call : OneCall old new
  pub ok : OnOk result (latest new ≡ made)
  pub err : OnErr result (MayBeMade (latest old) made (latest new))

-- a call that makes what reads give durable, or failed and changed nothing
pub record Syncs {T E : Type 0} (old new : History) (result : Result T E) : Type 0 where
  pub call : OneCall old new
  pub ok : OnOk result (latest new ≡ after_sync (latest old))
  pub err : OnErr result (latest new ≡ latest old)

-- at most so many calls
abbrev pub AtMostCalls : ℕ → History → History → Type 0
AtMostCalls most old new = new.moment ≤ old.moment + most

-- A run of calls, in which a crash at each moment leaves what has P.
pub record LeavesOnly (old new : History) (P : List ℕ → Type 0) : Type 0 where
  pub goes_on : GoesOn old new
  pub each : (bytes : List ℕ) → MightHaveLeft new old.moment bytes → P bytes

-- A write of n bytes that a crash cut short: any bytes in the range and past the old end, the same elsewhere.
pub record Torn (at n : ℕ) (old new : List ℕ) : Type 0 where
  pub no_shorter : length old ≤ length new
  pub no_longer : length new ≤ max (length old) (at + n)
  pub front : take at new ≡ take at old
  pub back : drop (at + n) new ≡ drop (at + n) old

-- A cut that a crash cut short: some length between.
pub record CutShort (len : ℕ) (old new : List ℕ) : Type 0 where
  pub no_shorter : len ≤ length new
  pub no_longer : length new ≤ length old
  pub front : new ≡ take (length new) old
