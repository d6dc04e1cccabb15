use Rattle.worker_node.proofs.Payloads.{loaded}
use Rattle.worker_node.proofs.working.work.Goals as goal

pub returns-in_ok-marked-in-Load-clause-ok : goal.returns-in_ok-marked-in-Load-clause-ok
returns-in_ok-marked-in-Load-clause-ok g c = λ told. loaded g.R.Driver.creates c.args.message.now c.in-Load.key c.in-Load.payload c.as_slice.result.now _ _ _ c.in-Load.is c.as_slice.ensures c.in_ok-marked-in-Load.ensures.ok
