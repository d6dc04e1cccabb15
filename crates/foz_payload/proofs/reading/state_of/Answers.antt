use Rattle.std.proofs.Common.{sym, ◌∙◌}
use Rattle.foz_payload.proofs.Modules.{wrong_tag}
use Rattle.foz_payload.proofs.Small.{module_ordinary, module_few, plain_ordinary, plain_few}
use Rattle.foz_payload.proofs.reading.state_of.Goals as goal

pub returns-in-None-clause-meant : goal.returns-in-None-clause-meant
returns-in-None-clause-meant c = wrong_tag c.args.key c.args.payload.now c.if-key-eq4.false (sym c.kind_of_tag.ensures ∙ c.in-None.is)

pub returns-then-key-eq4-clause-ordinary : goal.returns-then-key-eq4-clause-ordinary
returns-then-key-eq4-clause-ordinary c = module_ordinary c.args.key.hash c.args.payload.now c.module_of.result c.module_of.ensures

pub returns-then-key-eq4-clause-few : goal.returns-then-key-eq4-clause-few
returns-then-key-eq4-clause-few c = module_few c.args.key.hash c.args.payload.now c.module_of.result c.module_of.ensures

pub returns-in-Some-clause-ordinary : goal.returns-in-Some-clause-ordinary
returns-in-Some-clause-ordinary c = plain_ordinary c.in-Some.kind c.args.key c.args.payload.now c.plain_state.result c.plain_state.ensures

pub returns-in-Some-clause-few : goal.returns-in-Some-clause-few
returns-in-Some-clause-few c = plain_few c.in-Some.kind c.args.key c.args.payload.now c.plain_state.result c.plain_state.ensures
