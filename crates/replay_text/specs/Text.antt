-- The text of a replay.
use Rattle.std.specs.Prelude.{ℕ, List, ◌++◌, length, Option}
use Rattle.std.specs.List.{flat_map, range_with_len}
use Rattle.foz_entry.specs.declared.cut.Entry.{Entry}
use Rattle.replay_core.specs.declared.event.Event.{Event}
use Rattle.replay_core.specs.declared.event.Verdict.{Verdict}
use Rattle.dep_graph.specs.declared.graph.Graph.{Graph}
use Rattle.replay_text.specs.Lines.{line_at}
use Rattle.replay_text.specs.Counted.{verdict_counts, event_counts}

-- A line for each entry in the order of the file, and two that count. The graph is that of the entries, and there is a
-- verdict for each item of it.
unfoldable pub replay_text : List Entry → Graph → List (Option Verdict) → List Event → List ℕ
replay_text entries graph verdicts events = flat_map (line_at entries graph verdicts) (range_with_len 0 (length entries)) ++ (verdict_counts verdicts ++ event_counts events)
