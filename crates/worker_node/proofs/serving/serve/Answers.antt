use Rattle.std.proofs.Common.{ℕ, ◌++◌, List, [], refl, ap, take, ◌∙◌}
use Rattle.worker_node.proofs.Endings.{unsent_end}
use Rattle.worker_node.proofs.serving.serve.Goals as goal

pub returns-in-Ok-clause-session : goal.returns-in-Ok-clause-session
returns-in-Ok-clause-session g c = λ gives told.
    let was = g.O.Sink.written c.args.sink.now in
    c.serve_pieces.ensures.session gives told was (c.in-Ok.ensures.whole told ∙ ap (λ (l : List ℕ). was ++ l) c.hello_frame.ensures)

pub returns-in-Ok-clause-end : goal.returns-in-Ok-clause-end
returns-in-Ok-clause-end g c = c.serve_pieces.ensures.end

pub returns-in-Ok-clause-read_fault : goal.returns-in-Ok-clause-read_fault
returns-in-Ok-clause-read_fault g c = c.serve_pieces.ensures.read_fault

pub returns-in-Err-clause-session : goal.returns-in-Err-clause-session
returns-in-Err-clause-session g c = λ gives told.
    let was = g.O.Sink.written c.args.sink.now in
    let count = c.in-Err.ensures.cut_short told in
    ([], refl, unsent_end g.R.Driver.creates (g.R.Driver.meaning c.args.driver.now) was [] _ count.0 (count.1 ∙ ap (λ (l : List ℕ). was ++ take count.0 l) c.hello_frame.ensures))
