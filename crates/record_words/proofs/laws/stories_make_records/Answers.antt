use Rattle.record_words.proofs.Law.{answered, told_by_note}
use Rattle.record_words.proofs.laws.stories_make_records.Goals as goal

pub returns-clause-recorded : goal.returns-clause-recorded
returns-clause-recorded g c = λ origin story lines threads seat place given. answered origin story lines threads seat place given

pub returns-clause-by_the_calls : goal.returns-clause-by_the_calls
returns-clause-by_the_calls g c = λ origin story lines threads seat place given. told_by_note origin story lines threads seat place given
