-- How a replay went as a whole.
use Rattle.std.specs.Prelude.{◌≢◌, ◌==◌, if◌then◌else◌, Bool, true, false, List, count_by, is_none, Option}
use Rattle.std.specs.List.{list_all}
use Rattle.replay_core.specs.declared.event.Verdict.{Verdict}
use Rattle.replay_core.specs.declared.event.Event.{Event}
use Rattle.replay_core.specs.Counting.{is_success}
use Rattle.replay_core.specs.Runs.{Setup, verdict_list, AllDecided}
use Rattle.dep_graph.specs.declared.class.Class.{Class}
use Rattle.dep_graph.specs.declared.class.Class.TheVariants.{Damaged, Duplicate, Kept, Unreadable, Item}
use Rattle.replay_text.specs.declared.overall.Overall.{Overall}
use Rattle.replay_text.specs.declared.overall.Overall.TheVariants.{Flawless, Flawed, Unanswered}
use Rattle.replay_text.specs.Lines.{verdict_in}

-- the line of an entry of this class says `done` or `kept`
abbrev pub is_well : List (Option Verdict) → Class → Bool
is_well verdicts (Damaged cause) = false
is_well verdicts (Duplicate first) = false
is_well verdicts Kept = true
is_well verdicts (Unreadable cause) = false
is_well verdicts (Item number) = is_success (verdict_in verdicts number)

-- how a replay of entries of these classes went
unfoldable pub overall : List Class → List (Option Verdict) → Overall
overall classes verdicts =
    if count_by is_none verdicts == 0 then (if list_all (is_well verdicts) classes then Flawless else Flawed) else Unanswered

-- a replay that decides each item leaves none unanswered
abbrev pub DecidedIsAnswered : Type 0
DecidedIsAnswered = (s : Setup) (events : List Event) (classes : List Class) → AllDecided s events → overall classes (verdict_list s events) ≢ Unanswered
