use Rattle.std.proofs.Common.{◌≡◌, ◌*◌, ◌≤◌}
use Rattle.replay_core.specs.declared.event.SlotState.TheVariants.{Idle}
use Rattle.replay_core.specs.Runs.{slot_at}
use Rattle.replay_board.specs.Seats.{turns_of, slot_of, own_events}
use Rattle.replay_board.specs.Askers.{IsAsker}
use Rattle.replay_board.proofs.tests.work.Given as goal

abbrev pub invariant-loop-turn : goal.invariant-loop-turn
invariant-loop-turn g l = record {
  asker : IsAsker l.board l.asker;
  turns : turns_of l.asker.seat ≤ 3 * l.turn;
  idle : slot_at (own_events l.asker.seat) (slot_of l.asker.seat) ≡ Idle;
}
