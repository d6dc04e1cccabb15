-- The verdicts of a replay over the shipped driver are what becomes of the items by the driver's codes alone.
use Rattle.std.specs.Prelude.{ℕ, List, map, slice_index_or}
use Rattle.std.specs.List.{AllZip, zip}
use Rattle.foz_words.specs.declared.key.Key.{Key}
use Rattle.foz_entry.specs.declared.cut.Entry.{Entry}
use Rattle.state_words.specs.declared.state.State.{State}
use Rattle.driver_check.specs.Kept.{KeptStates, nothing_kept, kept_in}
use Rattle.driver_check.specs.Codes.{code, Creates}
use Rattle.replay_core.specs.Fates.{Outcome, Code, IsFateList}
use Rattle.replay_core.specs.Histories.{History}
use Rattle.replay_core.specs.Runs.{verdict_list}
use Rattle.dep_graph.specs.declared.class.Class.{Class}
use Rattle.dep_graph.specs.declared.graph.Graph.{Graph}
use Rattle.dep_graph.specs.Classes.{HoldsState}
use Rattle.dep_graph.specs.Items.{item_entries, item_keys}
use Rattle.dep_graph.specs.Graphs.{IsGraphOf}
use Rattle.check_run.specs.Checks.{IsCheck}

-- these are the states of the items, in the order of the file
abbrev pub AreStatesOf : List Entry → List Class → List State → Type 0
AreStatesOf entries classes states = AllZip HoldsState (item_entries entries classes) states

-- all of these states are kept, each under its item's key
abbrev pub all_kept : List Key → List State → KeptStates
all_kept keys states = kept_in (zip keys states)

-- the shipped driver's code for each of these states, where all of them are kept
abbrev pub codes_of : List Key → List State → List ℕ
codes_of keys states = map (code (all_kept keys states)) states

-- each item is answered with the code at its place
abbrev pub by_codes : List ℕ → ℕ → Outcome
by_codes codes i = Code (slice_index_or codes i 0)

-- each item has a state
abbrev pub ItemsHaveStates : Type 0
ItemsHaveStates = (entries : List Entry) (graph : Graph) → IsGraphOf entries graph → (states : List State) × AreStatesOf entries graph.classes states

-- Over a driver that had kept nothing the verdicts are the fates of the items, where each is answered with the driver's code for
-- its state over all of them: neither the order of the replay nor what was refused plays a part.
abbrev pub VerdictsAreFatesOfCodes : Type 0
VerdictsAreFatesOfCodes = (entries : List Entry) (graph : Graph) (core : History) (after : KeptStates) (states : List State)
    → IsCheck Creates nothing_kept entries graph core after → AreStatesOf entries graph.classes states
    → IsFateList graph.plan (by_codes (codes_of (item_keys entries graph.classes) states)) (verdict_list core.setup core.events)
