use Rattle.record_words.proofs.History.{story_apart, story_sound, legal_more}
use Rattle.record_words.proofs.laws.stories_add_each_key_once.Goals as goal

pub returns-clause-apart : goal.returns-clause-apart
returns-clause-apart c = story_apart

pub returns-clause-sound : goal.returns-clause-sound
returns-clause-sound c = story_sound

pub returns-clause-goes_on : goal.returns-clause-goes_on
returns-clause-goes_on c = legal_more
