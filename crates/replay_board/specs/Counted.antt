-- What was published of a scheduler's events.
use Rattle.std.specs.Prelude.{List, take, All}
use Rattle.replay_core.specs.declared.counts.Counts.{Counts}
use Rattle.replay_core.specs.declared.event.Event.{Event}
use Rattle.replay_core.specs.Runs.{Setup}
use Rattle.replay_core.specs.Counting.{IsCountOf}
use Rattle.progress_block.specs.Rows.{EndsWith}

-- the counts are those of a prefix of the events, which is as long as they say
abbrev pub IsCountOfPrefix : Setup → List Event → Counts → Type 0
IsCountOfPrefix s events c = IsCountOf s (take c.events events) c

-- each row is the counts of a prefix of the events, and the last one is that of all events
pub record AreCounted (s : Setup) (events : List Event) (rows : List Counts) : Type 0 where
  pub each : All (IsCountOfPrefix s events) rows
  pub last : (row : Counts) → EndsWith rows row → IsCountOf s events row
