-- What `check` tells over the shipped driver.
use Rattle.std.specs.Prelude.{◌≡◌, ℕ, List, Option}
use Rattle.foz_entry.specs.declared.cut.Entry.{Entry}
use Rattle.state_words.specs.declared.state.State.{State}
use Rattle.replay_core.specs.declared.event.Event.{Event}
use Rattle.replay_core.specs.declared.event.Verdict.{Verdict}
use Rattle.replay_core.specs.Fates.{IsFateList}
use Rattle.dep_graph.specs.declared.graph.Graph.{Graph}
use Rattle.dep_graph.specs.Graphs.{IsGraphOf}
use Rattle.dep_graph.specs.Items.{item_keys}
use Rattle.check_run.specs.Fated.{AreStatesOf, by_codes, codes_of}
use Rattle.replay_text.specs.Text.{replay_text}
use Rattle.replay_text.specs.Overall.{overall}
use Rattle.foz_tool.specs.CheckRun.{IsStatusOf}

-- The verdicts that the text tells are what becomes of the entries' items, where each is answered with the shipped driver's
-- code for its state over all of them.
pub record TellsFates (entries : List Entry) (text : List ℕ) (status : ℕ) : Type 0 where
  pub graph : Graph
  pub graph_is : IsGraphOf entries graph
  pub states : List State
  pub are_states : AreStatesOf entries graph.classes states
  pub verdicts : List (Option Verdict)
  pub fates : IsFateList graph.plan (by_codes (codes_of (item_keys entries graph.classes) states)) verdicts
  pub events : List Event
  pub told : text ≡ replay_text entries graph verdicts events
  pub status_is : IsStatusOf (overall graph.classes verdicts) status
