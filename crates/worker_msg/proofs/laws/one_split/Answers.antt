use Rattle.worker_msg.proofs.Rows as rows
use Rattle.worker_msg.proofs.laws.one_split.Goals as goal

pub returns : goal.returns
returns c = rows.one_split
