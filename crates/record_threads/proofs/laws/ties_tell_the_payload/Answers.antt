use Rattle.record_threads.proofs.Ties.{tied_of, records_by_tie}
use Rattle.record_threads.proofs.laws.ties_tell_the_payload.Goals as goal

pub returns-clause-tied : goal.returns-clause-tied
returns-clause-tied c = tied_of

pub returns-clause-records : goal.returns-clause-records
returns-clause-records c = records_by_tie
