use Rattle.record_threads.proofs.Seated.{no_calls, has_recorded, has_flushed, has_nothing_more, has_when_joined}
use Rattle.record_threads.proofs.Others.{nobody_else}
use Rattle.record_threads.proofs.laws.seats_have_their_calls.Goals as goal

pub returns-clause-none : goal.returns-clause-none
returns-clause-none g c = λ origin story number none. no_calls origin number story none

pub returns-clause-call : goal.returns-clause-call
returns-clause-call g c = λ before later key payload reply origin calls noted is has. has_recorded before later calls key payload reply origin noted is has

pub returns-clause-flush : goal.returns-clause-flush
returns-clause-flush g c = λ before later reply origin calls noted has. has_flushed before later calls reply origin noted has

pub returns-clause-refused : goal.returns-clause-refused
returns-clause-refused g c = λ before later origin calls adds has. has_nothing_more before later calls origin adds has

pub returns-clause-joined : goal.returns-clause-joined
returns-clause-joined g c = λ origin seen story number calls prefix same has. has_when_joined origin number seen story calls prefix same has

pub returns-clause-nobody_else : goal.returns-clause-nobody_else
returns-clause-nobody_else g c = λ origin story joined all none place n key at call. nobody_else origin story joined all none place n key at call
