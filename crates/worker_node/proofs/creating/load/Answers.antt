use Rattle.std.proofs.Common.{ℕ, Option, subst}
use Rattle.worker_node.specs.Sessions.{refused_load, IsCreated}
use Rattle.worker_node.proofs.Payloads.{load_zero, load_none}
use Rattle.worker_node.proofs.creating.load.Goals as goal

pub returns-then-code-eq0-clause-ok : goal.returns-then-code-eq0-clause-ok
returns-then-code-eq0-clause-ok g c =
    load_zero g.R.Driver.creates c.args.marked c.args.key c.args.payload.now _ _ _ c.if-code-eq0.true
    (subst (λ (o : Option ℕ). IsCreated g.R.Driver.creates (g.R.Driver.meaning c.args.driver.now) c.args.key c.args.payload.now o (g.R.Driver.meaning c.create.new.driver)) c.in-Some.is c.in_ok-created.ensures.ok)

pub returns-else-code-eq0-clause-ok : goal.returns-else-code-eq0-clause-ok
returns-else-code-eq0-clause-ok g c =
    refused_load c.args.marked c.args.key c.args.payload.now _ _ _ c.if-code-eq0.false
    (subst (λ (o : Option ℕ). IsCreated g.R.Driver.creates (g.R.Driver.meaning c.args.driver.now) c.args.key c.args.payload.now o (g.R.Driver.meaning c.create.new.driver)) c.in-Some.is c.in_ok-created.ensures.ok)

pub returns-in-None-clause-ok : goal.returns-in-None-clause-ok
returns-in-None-clause-ok g c =
    let none = subst (λ (o : Option ℕ). IsCreated g.R.Driver.creates (g.R.Driver.meaning c.args.driver.now) c.args.key c.args.payload.now o (g.R.Driver.meaning c.create.new.driver)) c.in-None.is c.in_ok-created.ensures.ok in
    load_none g.R.Driver.creates c.args.marked c.args.key c.args.payload.now _ _ none.0 none.1
