-- A replay of an archive's entries by workers.
use Rattle.std.specs.Prelude.{◌≡◌, ℕ, List, length, map}
use mathlib.Core.Option.{some}
use lib.ListN.{get_elem?}
use Rattle.disk_model.specs.Faults.{Rose}
use Rattle.foz_entry.specs.declared.cut.Entry.{Entry}
use Rattle.replay_core.specs.Histories.{History}
use Rattle.replay_core.specs.Runs.{setup_of, IsRun, AllDecided}
use Rattle.dep_graph.specs.declared.graph.Graph.{Graph}
use Rattle.dep_graph.specs.Graphs.{IsGraphOf}
use Rattle.dep_graph.specs.Items.{item_entries}
use Rattle.slot_log.specs.Views.{SlotView}
use Rattle.slot_log.specs.Works.{Orders}
use Rattle.replay_crew.specs.Jobs.{work_in}
use Rattle.crew_run.specs.Crews.{ArePlayed}

-- what workers are asked with for the items of entries
abbrev pub orders_in : List Entry → Graph → Orders
orders_in entries graph = record { plan = graph.plan; works = map work_in (item_entries entries graph.classes) }

-- The items of the entries were replayed by workers in these slots, as they were before and are after. The core has what really
-- happened: a run of the graph's plan whose events of each slot are told by the notes that its log has more.
pub record IsCrewReplay (entries : List Entry) (before after : List SlotView) (graph : Graph) (core : History) : Type 0 where
  pub graph_is : IsGraphOf entries graph
  pub setup : core.setup ≡ setup_of graph.plan (length before)
  pub run : IsRun core.setup core.events
  pub long : length after ≡ length before
  pub played : ArePlayed (λ slot. slot) (orders_in entries graph) core before after

-- in each slot a worker couldn't be started
abbrev pub EachFailedToStart : List SlotView → List SlotView → Type 0
EachFailedToStart before after = (w : ℕ) (old new : SlotView) → get_elem? before w ≡ some old → get_elem? after w ≡ some new → Rose old.start_faults new.start_faults

-- where an item is left undecided, it is so
abbrev pub UnansweredByFailedStarts : Type 0
UnansweredByFailedStarts = (entries : List Entry) (before after : List SlotView) (graph : Graph) (core : History) → IsCrewReplay entries before after graph core → ¬ AllDecided core.setup core.events
    → EachFailedToStart before after
