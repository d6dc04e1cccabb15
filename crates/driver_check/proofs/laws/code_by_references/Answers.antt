use Rattle.driver_check.proofs.Dependence.{same_code}
use Rattle.driver_check.proofs.laws.code_by_references.Goals as goal

pub returns : goal.returns
returns c = same_code
