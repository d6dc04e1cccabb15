use Rattle.record_words.proofs.Alone.{one_record}
use Rattle.record_words.proofs.laws.one_thread_has_one_record.Goals as goal

pub returns : goal.returns
returns g c = λ text_of before later other lines text written. one_record text_of before later other lines text written
