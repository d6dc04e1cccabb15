use Rattle.serde_json.specs.Written.{compact_text}
use Rattle.float_fold.proofs.Folds.{folded_stays}
use Rattle.float_fold.proofs.CompactText.{compact_text-plain}
use Rattle.float_fold.proofs.laws.compact_text_stays.Goals as goal

pub returns-clause-no_float : goal.returns-clause-no_float
returns-clause-no_float c = compact_text-plain

pub returns-clause-same : goal.returns-clause-same
returns-clause-same c = λ value whole. folded_stays (compact_text value) (compact_text-plain value whole)
