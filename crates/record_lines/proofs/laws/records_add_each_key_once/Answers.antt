use Rattle.record_lines.proofs.Apart.{answers_apart}
use Rattle.record_lines.proofs.laws.records_add_each_key_once.Goals as goal

pub returns : goal.returns
returns g c before later lines threads answers are = answers_apart c.keys_are_compared.ensures.itself before lines later threads answers are
