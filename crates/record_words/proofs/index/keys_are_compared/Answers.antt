use Rattle.record_words.proofs.Holders.{key_same, key_itself, key_turned}
use Rattle.record_words.proofs.index.keys_are_compared.Goals as goal

pub returns-clause-same : goal.returns-clause-same
returns-clause-same c = key_same

pub returns-clause-itself : goal.returns-clause-itself
returns-clause-itself c = key_itself

pub returns-clause-turned : goal.returns-clause-turned
returns-clause-turned c = key_turned
