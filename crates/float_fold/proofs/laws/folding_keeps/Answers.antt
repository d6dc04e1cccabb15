use Rattle.float_fold.proofs.Folds.{one_answer, concat-pieces, folded_shorter, folded_stays}
use Rattle.float_fold.proofs.NoFloats.{folded-plain}
use Rattle.float_fold.proofs.laws.folding_keeps.Goals as goal

pub returns-clause-whole : goal.returns-clause-whole
returns-clause-whole c = concat-pieces

pub returns-clause-shorter : goal.returns-clause-shorter
returns-clause-shorter c = folded_shorter

pub returns-clause-same : goal.returns-clause-same
returns-clause-same c = folded_stays

pub returns-clause-alone : goal.returns-clause-alone
returns-clause-alone c = one_answer

pub returns-clause-no_float : goal.returns-clause-no_float
returns-clause-no_float c = folded-plain
