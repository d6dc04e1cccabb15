-- Objects in memory that fail as they are told to: what each was made with, and how far it has come.
use Rattle.std.specs.Prelude.{◌⊎◌, IsTrue, ◌==◌, ℕ, ◌+◌, ◌-◌, ◌^◌, ◌≤◌, min, List, []}
use Rattle.std.specs.List.{list_any}

-- the number is in the list
abbrev pub IsListed : List ℕ → ℕ → Type 0
IsListed numbers number = IsTrue (list_any (λ listed. listed == number) numbers)

-- the number of the call after this one
abbrev pub next_number : ℕ → ℕ
next_number number = min (number + 1) (2 ^ 64 - 1)

-- a source
pub record SourcePlan : Type 0 where
  -- the most bytes of one call
  pub step : ℕ
  -- the number of the next call, counted from 0, and the numbers of those that fail
  pub next : ℕ
  pub failing : List ℕ

-- a sink
pub record SinkPlan : Type 0 where
  -- how many bytes it takes in all, and the most of one call
  pub room : ℕ
  pub step : ℕ
  pub next : ℕ
  pub failing : List ℕ

-- a disk
pub record DiskPlan : Type 0 where
  -- how many bytes it takes in all, and how many it has taken, those that it was made with among them
  pub room : ℕ
  pub used : ℕ
  -- how many calls it bears
  pub calls : ℕ
  pub next : ℕ
  pub failing : List ℕ

-- a shelf
pub record ShelfPlan : Type 0 where
  -- the room and the calls of a disk that it makes
  pub room : ℕ
  pub calls : ℕ
  pub next : ℕ
  pub failing : List ℕ

-- the next call of a disk is to fail
abbrev pub FailsNext : DiskPlan → Type 0
FailsNext plan = (plan.calls ≤ plan.next) ⊎ IsListed plan.failing plan.next

-- a disk without a call so far, on which no failure is listed
abbrev pub unused : ℕ → ℕ → ℕ → DiskPlan
unused room used calls = record { room = room; used = used; calls = calls; next = 0; failing = [] }

-- after a call of a disk that wrote nothing
abbrev pub counted : DiskPlan → DiskPlan
counted plan = record plan { next = next_number plan.next }

-- after one that wrote so many bytes
abbrev pub filled : ℕ → DiskPlan → DiskPlan
filled more plan = record plan { used = plan.used + more; next = next_number plan.next }
