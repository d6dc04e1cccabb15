use Rattle.std.proofs.Common.{◌≡◌, ◌≤◌, ◌+◌, length, vec_capacity, All}
use Rattle.slot_log.specs.Loads.{none_created}
use Rattle.replay_board.specs.Seats.{setup_seen}
use Rattle.crew_run.specs.Kits.{AreNewKits}
use Rattle.crew_run.specs.Roots.{HasSplit}
use Rattle.crew_run.proofs.seating.seat_all.Given as goal

abbrev pub invariant-loop-loader : goal.invariant-loop-loader
invariant-loop-loader g l = record {
  split : HasSplit l.board (setup_seen l.fn.root) (length l.kits.items) l.root;
  count : length l.loaders.items + length l.kits.items ≡ (setup_seen l.fn.root).slots;
  new : All (λ loader. loader ≡ none_created (setup_seen l.fn.root).plan) l.loaders.items;
  kits : AreNewKits l.board (setup_seen l.fn.root) l.kits.items;
  capacity : (setup_seen l.fn.root).slots ≤ vec_capacity l.kits;
}

abbrev pub decreases-loop-loader : goal.decreases-loop-loader
decreases-loop-loader g l = length l.loaders.items
