-- What a replay over several slots leaves.
use Rattle.std.specs.Prelude.{ℕ, ◌≡◌, ◌≢◌, false, List}
use Rattle.std.specs.List.{filter}
use mathlib.Core.Option.{some}
use lib.ListN.{get_elem?}
use Rattle.disk_model.specs.Faults.{Rose}
use Rattle.replay_core.specs.declared.event.SlotState.TheVariants.{Retired}
use Rattle.replay_core.specs.Histories.{History}
use Rattle.replay_core.specs.Runs.{AllDecided, names, slot_at}
use Rattle.slot_log.specs.Views.{SlotView}
use Rattle.slot_log.specs.Works.{Orders}
use Rattle.replay_crew.specs.Steps.{IsTold}

-- Slot w after a replay: the notes added to its log tell the events that name it, and no worker runs. It was given up only where a
-- start failed, and otherwise it ended since every item is decided.
pub record IsPlayed (orders : Orders) (core : History) (w : ℕ) (before after : SlotView) : Type 0 where
  pub told : IsTold orders w (filter (names w) core.events) before.log after.log
  pub stopped : after.running ≡ false
  pub retired : slot_at core.events w ≡ Retired → Rose before.start_faults after.start_faults
  pub finished : slot_at core.events w ≢ Retired → AllDecided core.setup core.events

-- the same of each slot, by what is seen of it
abbrev pub ArePlayed : {S : Type 0} → (S → SlotView) → Orders → History → List S → List S → Type 0
ArePlayed {S} view orders core before after = (w : ℕ) (old new : S) → get_elem? before w ≡ some old → get_elem? after w ≡ some new → IsPlayed orders core w (view old) (view new)
