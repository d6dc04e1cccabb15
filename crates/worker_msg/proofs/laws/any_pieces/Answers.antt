use Rattle.worker_msg.proofs.Rows.{fed_splits, fed_place}
use Rattle.worker_msg.proofs.laws.any_pieces.Goals as goal

pub returns-clause-split : goal.returns-clause-split
returns-clause-split c = fed_splits

pub returns-clause-place : goal.returns-clause-place
returns-clause-place c = fed_place
