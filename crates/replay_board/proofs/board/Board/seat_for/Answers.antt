use Rattle.std.proofs.Common.{arith}
use Rattle.replay_board.proofs.board.Board.seat_for.Goals as goal

pub split-requires-clause-room : goal.split-requires-clause-room
split-requires-clause-room c = let few = c.requires.root.0.few in let next = c.requires.next in let inside = c.requires.inside in omega arith
