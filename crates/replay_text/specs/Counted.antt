-- The lines that count.
use Rattle.std.specs.Prelude.{ℕ, List, ◌++◌, length, codes, decimal, count_by, is_none, Option}
use Rattle.replay_core.specs.declared.event.Event.{Event}
use Rattle.replay_core.specs.declared.event.Verdict.{Verdict}
use Rattle.replay_core.specs.Counting.{is_success, is_refused, is_blamed, is_missing, is_death, is_restart, is_retirement}

-- the items by their verdicts
unfoldable pub verdict_counts : List (Option Verdict) → List ℕ
verdict_counts verdicts =
    codes "items " ++ decimal (length verdicts)
    ++ codes " done " ++ decimal (count_by is_success verdicts)
    ++ codes " refused " ++ decimal (count_by is_refused verdicts)
    ++ codes " blamed " ++ decimal (count_by is_blamed verdicts)
    ++ codes " missing " ++ decimal (count_by is_missing verdicts)
    ++ codes " unanswered " ++ decimal (count_by is_none verdicts)
    ++ codes "\n"

-- what happened to workers
unfoldable pub event_counts : List Event → List ℕ
event_counts events =
    codes "deaths " ++ decimal (count_by is_death events)
    ++ codes " restarts " ++ decimal (count_by is_restart events)
    ++ codes " retired " ++ decimal (count_by is_retirement events)
    ++ codes "\n"
