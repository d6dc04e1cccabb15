-- The whole text.
use Rattle.std.proofs.Common.{◌≡◌, ℕ, List, ◌++◌, length, ap, ◌∙◌, Option}
use Rattle.std.specs.List.{flat_map, range_with_len}
use Rattle.foz_entry.specs.declared.cut.Entry.{Entry}
use Rattle.replay_core.specs.declared.event.Event.{Event}
use Rattle.replay_core.specs.declared.event.Verdict.{Verdict}
use Rattle.dep_graph.specs.declared.graph.Graph.{Graph}
use Rattle.replay_text.specs.Lines.{line_at}
use Rattle.replay_text.specs.Counted.{verdict_counts, event_counts}
use Rattle.replay_text.specs.Text.{replay_text}
use Rattle.replay_text.proofs.Ranges.{two_more}

pub text_is : (entries : List Entry) (graph : Graph) (verdicts : List (Option Verdict)) (events : List Event) (start a b c : List ℕ) (count : ℕ) → count ≡ length entries
    → a ≡ start ++ flat_map (line_at entries graph verdicts) (range_with_len 0 count) → b ≡ a ++ verdict_counts verdicts → c ≡ b ++ event_counts events → c ≡ start ++ replay_text entries graph verdicts events
unfolding replay_text
text_is entries graph verdicts events start a b c count all lines counted told =
    two_more start (flat_map (line_at entries graph verdicts) (range_with_len 0 (length entries))) (verdict_counts verdicts) (event_counts events) a b c
    (lines ∙ ap (λ (n : ℕ). start ++ flat_map (line_at entries graph verdicts) (range_with_len 0 n)) all) counted told
