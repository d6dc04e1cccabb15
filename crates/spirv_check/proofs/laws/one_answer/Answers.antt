use Rattle.spirv_check.proofs.Answered as answered
use Rattle.spirv_check.proofs.laws.one_answer.Goals as goal

pub returns-clause-fits : goal.returns-clause-fits
returns-clause-fits c = λ words. (answered.answered words).fits

pub returns-clause-told : goal.returns-clause-told
returns-clause-told c = λ words. (answered.answered words).told

pub returns-clause-only : goal.returns-clause-only
returns-clause-only c = answered.one_answer
