use Rattle.std.proofs.Common.{arith}
use Rattle.replay_board.specs.Seats.{slot_of, own_events}
use Rattle.replay_board.proofs.Turning.{idle_first}
use Rattle.replay_board.proofs.tests.work.Goals as goal

pub loop-turn-init : goal.loop-turn-init
loop-turn-init g c = record {
  asker = c.requires.of_board;
  turns = (let t = c.requires.turns in omega arith);
  idle = idle_first (own_events c.args.asker.seat) (slot_of c.args.asker.seat) c.requires.events;
}
