-- The command `replay`, by workers in the first slots of a crew.
use Rattle.std.specs.Prelude.{◌≡◌, ◌≢◌, ◌⊎◌, ℕ, List, take, drop, Result, Ok, Err}
use Rattle.foz_entry.specs.declared.cut.Entry.{Entry}
use Rattle.foz_archive.specs.declared.scanned.Scanned.{Scanned}
use Rattle.replay_core.specs.Histories.{History}
use Rattle.replay_core.specs.Runs.{verdict_list}
use Rattle.dep_graph.specs.declared.graph.Graph.{Graph}
use Rattle.slot_log.specs.Views.{SlotView}
use Rattle.replay_run.specs.Replays.{IsCrewReplay}
use Rattle.replay_text.specs.Text.{replay_text}
use Rattle.replay_text.specs.Overall.{overall}
use Rattle.foz_base.specs.declared.ending.Printout.{Printout}
use Rattle.foz_base.specs.declared.stop.Stop.{Stop}
use Rattle.foz_base.specs.Ending.{Ended, Causes}
use Rattle.foz_base.specs.FileRead.{IsFileReading, StopsReading}
use Rattle.foz_base.specs.Outside.{File, Outside, Tells, FileFaultRose, IsFileOnlyRead}
use Rattle.foz_tool.specs.Outcome.{status_of_overall}

-- The entries were replayed by workers in these slots, as they were before and are after. This text tells what really happened,
-- and this status goes with it.
pub record AreReplayed (entries : List Entry) (before after : List SlotView) (text : List ℕ) (status : ℕ) : Type 0 where
  pub graph : Graph
  pub core : History
  pub replayed : IsCrewReplay entries before after graph core
  pub told : text ≡ replay_text entries graph (verdict_list core.setup core.events) core.events
  pub status_is : status ≡ status_of_overall (overall graph.classes (verdict_list core.setup core.events))

-- the same of the entries of a file
pub record IsFileReplayed (file : File) (before after : List SlotView) (text : List ℕ) (status : ℕ) : Type 0 where
  pub scanned : Scanned
  pub reading : IsFileReading file scanned
  pub replay : AreReplayed scanned.entries before after text status

-- `replay` of this file by so many workers ended with this status
pub record Replays (tells : Tells) {M : Type 0} (before after : Outside M) (file : List ℕ) (workers status : ℕ) : Type 0 where
  pub ended : tells.content → tells.output
      → Ended (IsFileReplayed (before.files.content file) (take workers before.crew) (take workers after.crew)) (StopsReading (before.files.content file) (FileFaultRose before.files after.files file)) before after status
  pub only_read : tells.content → IsFileOnlyRead tells.images before.files after.files file
  pub other_slots : drop workers after.crew ≡ drop workers before.crew

-- The rest speaks of every outside, also of one that tells nothing.

-- why a replay ends as it does: where what is read failed, or no worker could be started
abbrev pub ReplayCauses : Type 0 → Type 0 → Result Printout Stop → Type 0
ReplayCauses unread unstarted (Ok made) = (made.status ≡ 0) ⊎ (made.status ≡ 1) ⊎ ((made.status ≡ 9) × unstarted)
ReplayCauses unread unstarted (Err stop) = Causes unread ⊥ (Err stop)

-- the causes of the statuses that tell a fault; a replay writes no file, and has none of usage
pub record HasReplayCauses (unread unwritten unstarted : Type 0) (status : ℕ) : Type 0 where
  pub no_usage : status ≢ 2
  pub read : status ≡ 3 → unread
  pub write : status ≡ 4 → unwritten
  pub no_disk : status ≢ 5
  pub unanswered : status ≡ 9 → unstarted
