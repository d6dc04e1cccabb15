use Rattle.foz_tool.proofs.WorkerEnds.{comes_to, has_fault, serve_causes}
use Rattle.foz_tool.proofs.worker.worker_cmd.Goals as goal

pub returns-clause-serves : goal.returns-clause-serves
returns-clause-serves g c =
    let told = c.serve-end.ensures in
    record {
      session = λ input output.
          let session = told.session input output in record {
            outcome = c.serve-end.result;
            taken = session.0;
            parts = session.1;
            session = session.2;
            comes = comes_to _ _ session.0 c.serve-end.result session.1 (told.end input);
            fault = has_fault _ _ c.serve-end.result told.read_fault told.write_fault;
            answered = c.status_of_end.ensures;
          };
      ends = λ input. record { outcome = c.serve-end.result; comes = told.end input; answered = c.status_of_end.ensures };
    }

pub returns-clause-causes : goal.returns-clause-causes
returns-clause-causes g c = serve_causes _ _ c.serve-end.result _ c.status_of_end.ensures c.serve-end.ensures.read_fault c.serve-end.ensures.write_fault
