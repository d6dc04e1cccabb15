use Rattle.record_threads.proofs.Threads.{by_law}
use Rattle.record_threads.proofs.Ranks.{one_read_more, one_passed}
use Rattle.record_threads.proofs.laws.threads_make_records.Goals as goal

pub returns-clause-recorded : goal.returns-clause-recorded
returns-clause-recorded g c = λ origin story lines threads seat calls given. by_law c.stories_make_records.ensures.recorded c.stories_make_records.ensures.by_the_calls origin story lines threads seat calls given

pub returns-clause-one_more : goal.returns-clause-one_more
returns-clause-one_more g c = λ threads thread lines key payload. one_read_more threads thread lines key payload

pub returns-clause-passed : goal.returns-clause-passed
returns-clause-passed g c = λ threads thread lines line other. one_passed threads thread lines line other
