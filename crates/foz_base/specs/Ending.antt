-- How a command ends that prints one text.
use Rattle.std.specs.Prelude.{◌≡◌, ◌≢◌, ℕ, ◌⊎◌, List, ◌++◌, take, Result, Ok, Err}
use Rattle.disk_model.specs.Faults.{Rose}
use Rattle.foz_base.specs.declared.ending.Printout.{Printout}
use Rattle.foz_base.specs.declared.stop.Stop.{Stop}
use Rattle.foz_base.specs.declared.stop.Stop.TheVariants.{Usage, ReadFault, WriteFault, DiskFault}
use Rattle.foz_base.specs.Outside.{Outside}
use Rattle.foz_base.specs.Status.{status_of_stop}

-- the statuses of a command that has done its work
abbrev pub IsWhole : ℕ → Type 0
IsWhole status = (status ≡ 0) ⊎ (status ≡ 1) ⊎ (status ≡ 8)

-- A command did its work, which this text tells, and this status goes with it, or it stopped for this reason.
abbrev pub Makes : (List ℕ → ℕ → Type 0) → (Stop → Type 0) → Result Printout Stop → Type 0
Makes tells stops (Ok made) = tells made.text made.status
Makes tells stops (Err stop) = stops stop

-- a prefix of the text stands on the output, which failed
pub record IsCutShort (text before after : List ℕ) (failed : Type 0) (status : ℕ) : Type 0 where
  pub status_is : status ≡ 4
  pub count : ℕ
  pub written : after ≡ before ++ take count text
  pub fault : failed

-- what was made stands on the output, or a prefix of it; of a command that stopped nothing does
abbrev pub Prints : Result Printout Stop → List ℕ → List ℕ → Type 0 → ℕ → Type 0
Prints (Ok made) before after fault status = ((after ≡ before ++ made.text) × (status ≡ made.status)) ⊎ IsCutShort made.text before after fault status
Prints (Err stop) before after fault status = (after ≡ before) × (status ≡ status_of_stop stop)

-- A command ended with this status. `tells text status` says that its work is done, that this text tells it, and that this
-- status goes with it; `stops stop` says why it gave up before it printed anything.
pub record Ended {M : Type 0} (tells : List ℕ → ℕ → Type 0) (stops : Stop → Type 0) (before after : Outside M) (status : ℕ) : Type 0 where
  pub outcome : Result Printout Stop
  pub made : Makes tells stops outcome
  pub printed : Prints outcome before.written after.written (Rose before.output_faults after.output_faults) status

-- The rest speaks of every outside, also of one that tells nothing.

-- the status is that of what was made, or 4 where the output failed
abbrev pub EndsWith : Result Printout Stop → Type 0 → ℕ → Type 0
EndsWith (Ok made) fault status = (status ≡ made.status) ⊎ ((status ≡ 4) × fault)
EndsWith (Err stop) fault status = status ≡ status_of_stop stop

-- why a command stops before it prints: where what is read failed, or the file that is written
abbrev pub Causes : Type 0 → Type 0 → Result Printout Stop → Type 0
Causes read disk (Ok made) = IsWhole made.status
Causes read disk (Err ReadFault) = read
Causes read disk (Err DiskFault) = disk
Causes read disk (Err WriteFault) = ⊥
Causes read disk (Err Usage) = ⊥
Causes read disk (Err stop) = Unit {0}

-- the causes of the statuses that tell a fault; none is that of usage, or of a replay that leaves items unanswered
pub record HasCauses (unread unwritten failed : Type 0) (status : ℕ) : Type 0 where
  pub no_usage : status ≢ 2
  pub read : status ≡ 3 → unread
  pub write : status ≡ 4 → unwritten
  pub disk : status ≡ 5 → failed
  pub answered : status ≢ 9
