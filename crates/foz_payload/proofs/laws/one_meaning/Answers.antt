use Rattle.foz_payload.proofs.Alone.{one_meaning}
use Rattle.foz_payload.proofs.ReadBack.{read_back}
use Rattle.foz_payload.proofs.Small.{means_ordinary, means_few}
use Rattle.foz_payload.proofs.laws.one_meaning.Goals as goal

pub returns-clause-alone : goal.returns-clause-alone
returns-clause-alone c = one_meaning

pub returns-clause-ordinary : goal.returns-clause-ordinary
returns-clause-ordinary c = means_ordinary

pub returns-clause-few : goal.returns-clause-few
returns-clause-few c = means_few

pub returns-clause-read_back : goal.returns-clause-read_back
returns-clause-read_back c = read_back
