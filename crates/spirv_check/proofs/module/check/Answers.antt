use Rattle.spirv_check.proofs.Answered.{one_answer}
use Rattle.spirv_check.proofs.module.check.Goals as goal

pub returns-clause-only : goal.returns-clause-only
returns-clause-only c = λ told. one_answer c.args.words.now c.check_words.result told c.check_words.ensures
