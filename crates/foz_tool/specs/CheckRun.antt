-- The command `check`, over a driver whose calls go from one meaning to the next.
use Rattle.std.specs.Prelude.{◌≡◌, ◌⊎◌, ℕ, List}
use Rattle.foz_words.specs.declared.key.Key.{Key}
use Rattle.foz_entry.specs.declared.cut.Entry.{Entry}
use Rattle.foz_archive.specs.declared.scanned.Scanned.{Scanned}
use Rattle.state_words.specs.declared.state.State.{State}
use Rattle.replay_core.specs.Histories.{History}
use Rattle.replay_core.specs.Runs.{verdict_list}
use Rattle.dep_graph.specs.declared.graph.Graph.{Graph}
use Rattle.check_run.specs.Checks.{IsCheck}
use Rattle.replay_text.specs.Text.{replay_text}
use Rattle.replay_text.specs.Overall.{overall}
use Rattle.replay_text.specs.declared.overall.Overall.{Overall}
use Rattle.replay_text.specs.declared.overall.Overall.TheVariants.{Flawless, Flawed, Unanswered}
use Rattle.foz_base.specs.Ending.{Ended}
use Rattle.foz_base.specs.FileRead.{IsFileReading, StopsReading}
use Rattle.foz_base.specs.Outside.{File, Outside, Tells, FileFaultRose, IsFileOnlyRead}

-- the status of a replay; one in this process leaves no item unanswered
abbrev pub IsStatusOf : Overall → ℕ → Type 0
IsStatusOf Flawless status = status ≡ 0
IsStatusOf Flawed status = status ≡ 1
IsStatusOf Unanswered status = ⊥

module _ {M : Type 0} (creates : M → Key → State → ℕ → M → Type 0) where
  -- The entries were replayed, each item given to the driver, which came from one meaning to another. This text tells it,
  -- and this status goes with it.
  pub record IsReplayTold (old : M) (entries : List Entry) (new : M) (text : List ℕ) (status : ℕ) : Type 0 where
    pub graph : Graph
    pub core : History
    pub replayed : IsCheck creates old entries graph core new
    pub told : text ≡ replay_text entries graph (verdict_list core.setup core.events) core.events
    pub status_is : IsStatusOf (overall graph.classes (verdict_list core.setup core.events)) status

  -- the same of the entries of a file
  pub record IsCheckTold (file : File) (old new : M) (text : List ℕ) (status : ℕ) : Type 0 where
    pub scanned : Scanned
    pub reading : IsFileReading file scanned
    pub replay : IsReplayTold old scanned.entries new text status

  -- `check` of this file ended with this status
  pub record Checks (tells : Tells) (before after : Outside M) (file : List ℕ) (status : ℕ) : Type 0 where
    pub ended : tells.content → tells.output
        → Ended (IsCheckTold (before.files.content file) before.driver after.driver) (StopsReading (before.files.content file) (FileFaultRose before.files after.files file)) before after status
    pub only_read : tells.content → IsFileOnlyRead tells.images before.files after.files file
