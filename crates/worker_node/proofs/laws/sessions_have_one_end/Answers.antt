use Rattle.std.proofs.Common.{[]}
use Rattle.worker_node.proofs.OneEnd as ends
use Rattle.worker_node.proofs.Runs.{hello_end}
use Rattle.worker_node.proofs.laws.sessions_have_one_end.Goals as goal

pub returns-clause-one_end : goal.returns-clause-one_end
returns-clause-one_end g c = λ stream left end other. ends.one_end stream left end other

pub returns-clause-unserved : goal.returns-clause-unserved
returns-clause-unserved g c = λ before. hello_end g.R.Driver.creates before [] [] 0
