-- Kits before and after their slots are run.
use Rattle.std.specs.Prelude.{ℕ, ◌≡◌, ◌⊎◌, false, List}
use mathlib.Core.Option.{some}
use lib.ListN.{get_elem?}
use Rattle.disk_model.specs.Faults.{Rose}
use Rattle.replay_core.specs.declared.event.SlotState.TheVariants.{Idle, Retired}
use Rattle.replay_core.specs.Runs.{Setup, AllDecided, slot_at}
use Rattle.slot_log.specs.Loads.{none_created}
use Rattle.slot_log.specs.Views.{SlotView}
use Rattle.slot_log.specs.Works.{Orders}
use Rattle.replay_board.specs.declared.asker.Asker.{Asker}
use Rattle.replay_board.specs.declared.board.Board.{Board}
use Rattle.replay_board.specs.Seats.{slot_of, setup_seen, events_seen, own_events}
use Rattle.replay_board.specs.Askers.{IsAsker, IsNewAsker}
use Rattle.replay_crew.specs.declared.kit.Kit.{Kit}
use Rattle.replay_crew.specs.Kits.{seat_in, marks_in}
use Rattle.replay_crew.specs.Steps.{IsTold}

-- the kit of slot w, with which nothing was done yet
pub record IsNewKit (board : Board) (setup : Setup) (w : ℕ) (kit : Kit Asker) : Type 0 where
  pub asker : IsNewAsker board (seat_in kit)
  pub heard : (seat_in kit).heard ≡ 0
  pub knows : setup_seen (seat_in kit).seat ≡ setup
  pub slot : slot_of (seat_in kit).seat ≡ w
  pub marks : marks_in kit ≡ none_created setup.plan

-- each kit is a new one of the slot at its place
pub record AreNewKits (board : Board) (setup : Setup) (kits : List (Kit Asker)) : Type 0 where
  pub each : (w : ℕ) (kit : Kit Asker) → get_elem? kits w ≡ some kit → IsNewKit board setup w kit

-- a slot can be run with the kit
pub record IsReady (board : Board) (orders : Orders) (kit : Kit Asker) : Type 0 where
  pub asker : IsNewAsker board (seat_in kit)
  pub heard : (seat_in kit).heard ≡ 0
  pub plan : (setup_seen (seat_in kit).seat).plan ≡ orders.plan
  pub marks : marks_in kit ≡ none_created orders.plan

pub record AreReady (board : Board) (orders : Orders) (kits : List (Kit Asker)) : Type 0 where
  pub each : (p : ℕ) (kit : Kit Asker) → get_elem? kits p ≡ some kit → IsReady board orders kit

-- how a slot ended, by what its seat knows: every item was decided, or a worker could not be started
abbrev pub Ended : Kit Asker → ℕ → SlotView → SlotView → Type 0
Ended kit w before after =
    let seat = (seat_in kit).seat in
    (AllDecided (setup_seen seat) (events_seen seat) × (slot_at (own_events seat) w ≡ Idle)) ⊎ ((slot_at (own_events seat) w ≡ Retired) × Rose before.start_faults after.start_faults)

-- a slot was run with the first kit, which then was the second
pub record HasRun (board : Board) (orders : Orders) (first second : Kit Asker) (before after : SlotView) : Type 0 where
  pub asker : IsAsker board (seat_in second)
  pub knows : setup_seen (seat_in second).seat ≡ setup_seen (seat_in first).seat
  pub slot : slot_of (seat_in second).seat ≡ slot_of (seat_in first).seat
  pub told : IsTold orders (slot_of (seat_in first).seat) (own_events (seat_in second).seat) before.log after.log
  pub stopped : after.running ≡ false
  pub ended : Ended second (slot_of (seat_in first).seat) before after

-- the same of each slot, with the kits at its place
pub record HaveRun {S : Type 0} (view : S → SlotView) (board : Board) (orders : Orders) (firsts seconds : List (Kit Asker)) (befores afters : List S) : Type 0 where
  pub each : (p : ℕ) (first second : Kit Asker) (before after : S)
      → get_elem? firsts p ≡ some first → get_elem? seconds p ≡ some second → get_elem? befores p ≡ some before → get_elem? afters p ≡ some after → HasRun board orders first second (view before) (view after)
