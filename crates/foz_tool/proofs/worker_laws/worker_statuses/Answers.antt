use Rattle.foz_tool.proofs.WorkerEnds.{none_other, session, all_well, bad_frame, read_fault, write_fault, cut_short}
use Rattle.foz_tool.proofs.WorkerOneEnd.{exactly}
use Rattle.foz_tool.proofs.worker_laws.worker_statuses.Goals as goal

pub returns : goal.returns
returns g c = record {
  none_other = λ before after status serves. none_other g.R.Driver.creates before after serves.taken serves.outcome status serves.answered;
  session = λ before after status serves. session g.R.Driver.creates before after serves.taken serves.outcome status serves.session serves.answered;
  all_well = λ before after status serves. all_well g.R.Driver.creates before after serves.taken serves.outcome status serves.comes serves.answered;
  bad_frame = λ before after status serves. bad_frame g.R.Driver.creates before after serves.taken serves.outcome status serves.comes serves.answered;
  exactly = λ before after status serves small end ends. exactly c.sessions_have_one_end.ensures.one_end serves.taken after.input serves.outcome end status serves.comes serves.answered small ends;
  read_fault = λ before after status serves. read_fault g.R.Driver.creates before after serves.taken serves.outcome status serves.fault serves.answered;
  write_fault = λ before after status serves. write_fault g.R.Driver.creates before after serves.taken serves.outcome status serves.fault serves.answered;
  cut_short = λ before after status serves. cut_short g.R.Driver.creates before after serves.taken serves.outcome status serves.session serves.answered;
}
