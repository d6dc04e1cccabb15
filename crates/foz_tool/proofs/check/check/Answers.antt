use Rattle.foz_tool.proofs.check.check.Goals as goal

pub replay_told-requires-clause-sized : goal.replay_told-requires-clause-sized
replay_told-requires-clause-sized g c = rw c.as_slice.ensures c.in_ok-scanned.ensures.bounded.sized
