use Rattle.std.proofs.Common.{ℕ, Option, subst}
use Rattle.worker_node.specs.Sessions.{IsCreated}
use Rattle.worker_node.proofs.Payloads.{do_marked, do_none, do_some}
use Rattle.worker_node.proofs.creating.reply_code.Goals as goal

pub returns-then-marked-clause-ok : goal.returns-then-marked-clause-ok
returns-then-marked-clause-ok g c = do_marked g.R.Driver.creates c.args.marked c.args.key c.args.payload.now _ c.if-marked.true

pub returns-in-Some-clause-ok : goal.returns-in-Some-clause-ok
returns-in-Some-clause-ok g c =
    do_some g.R.Driver.creates c.args.marked c.args.key c.args.payload.now _ _ _ c.if-marked.false
    (subst (λ (o : Option ℕ). IsCreated g.R.Driver.creates (g.R.Driver.meaning c.args.driver.now) c.args.key c.args.payload.now o (g.R.Driver.meaning c.create.new.driver)) c.in-Some.is c.in_ok-created.ensures.ok)

pub returns-in-None-clause-ok : goal.returns-in-None-clause-ok
returns-in-None-clause-ok g c =
    let none = subst (λ (o : Option ℕ). IsCreated g.R.Driver.creates (g.R.Driver.meaning c.args.driver.now) c.args.key c.args.payload.now o (g.R.Driver.meaning c.create.new.driver)) c.in-None.is c.in_ok-created.ensures.ok in
    do_none g.R.Driver.creates c.args.marked c.args.key c.args.payload.now _ _ c.if-marked.false none.0 none.1
