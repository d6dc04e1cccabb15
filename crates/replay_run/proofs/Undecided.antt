-- What a replay that leaves an item undecided shows of its slots.
use Rattle.std.proofs.Common.{◌≡◌, ◌≢◌, ℕ, List, refl}
use mathlib.Core.Option.{some}
use lib.ListN.{get_elem?}
use Rattle.disk_model.specs.Faults.{Rose}
use Rattle.replay_core.specs.declared.event.SlotState.{SlotState}
use Rattle.replay_core.specs.declared.event.SlotState.TheVariants.{Idle, Holds, Dead, Retired}
use Rattle.replay_core.specs.Histories.{History}
use Rattle.replay_core.specs.Runs.{AllDecided, slot_at}
use Rattle.slot_log.specs.Views.{SlotView}
use Rattle.slot_log.specs.Works.{Orders}
use Rattle.crew_run.specs.Crews.{IsPlayed}
use Rattle.replay_run.specs.Replays.{UnansweredByFailedStarts}

module _ (orders : Orders) (core : History) (w : ℕ) (old new : SlotView) (played : IsPlayed orders core w old new) (undecided : ¬ AllDecided core.setup core.events) where
  by_state : (state : SlotState) → slot_at core.events w ≡ state → Rose old.start_faults new.start_faults
  by_state Idle is = absurd (undecided (played.finished (λ retired. cc)))
  by_state (Holds item) is = absurd (undecided (played.finished (λ retired. cc)))
  by_state Dead is = absurd (undecided (played.finished (λ retired. cc)))
  by_state Retired is = played.retired is

pub unanswered : UnansweredByFailedStarts
unanswered entries before after graph core replay undecided w old new e f = by_state _ core w old new (replay.played w old new e f) undecided (slot_at core.events w) refl
