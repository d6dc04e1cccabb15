-- The graph of an archive's entries.
use Rattle.std.specs.Prelude.{◌≡◌, ℕ, List, length, slice_get, Option, option_and_then}
use Rattle.std.specs.List.{AllZip}
use Rattle.foz_entry.specs.declared.cut.Entry.{Entry}
use Rattle.dep_graph.specs.declared.graph.Graph.{Graph}
use Rattle.dep_graph.specs.Classes.{AreClassesOf}
use Rattle.dep_graph.specs.Items.{item_places, item_entries, item_keys, AreDistinct, DependsAs}

-- The items and the plan are those of these entries, by the classes that the graph gives them. Of an entry that is no item its
-- head alone matters, so this holds too of entries whose other payloads were not kept.
pub record IsPlanOf (entries : List Entry) (graph : Graph) : Type 0 where
  pub long : length graph.classes ≡ length entries
  pub items : graph.items ≡ item_places graph.classes
  pub distinct : AreDistinct (item_keys entries graph.classes)
  pub deps : AllZip (DependsAs (item_keys entries graph.classes)) (item_entries entries graph.classes) graph.plan.deps

-- the graph of these entries
pub record IsGraphOf (entries : List Entry) (graph : Graph) : Type 0 where
  pub classes : AreClassesOf entries graph.classes
  pub plan : IsPlanOf entries graph

-- the entry at the place that the graph gives an item
abbrev pub entry_at : List Entry → Graph → ℕ → Option Entry
entry_at entries graph item = option_and_then (slice_get entries) (slice_get graph.items item)
