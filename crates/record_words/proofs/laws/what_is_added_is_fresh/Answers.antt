use Rattle.record_words.proofs.Added.{added_is_fresh}
use Rattle.record_words.proofs.laws.what_is_added_is_fresh.Goals as goal

pub returns : goal.returns
returns c = added_is_fresh
