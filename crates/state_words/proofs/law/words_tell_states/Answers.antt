use Rattle.state_words.proofs.StateLaw.{equal_words_equal_states}
use Rattle.state_words.proofs.law.words_tell_states.Goals as goal

pub returns : goal.returns
returns c = equal_words_equal_states
