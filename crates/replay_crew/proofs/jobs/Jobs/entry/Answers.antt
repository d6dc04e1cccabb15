use Rattle.replay_crew.proofs.Sending.{work_is, work_short}
use Rattle.replay_crew.proofs.jobs.Jobs.entry.Goals as goal

pub returns-clause-work : goal.returns-clause-work
returns-clause-work c = work_is c.args.self.now c.args.item c.item_entry.result.now c.item_entry.ensures

pub returns-clause-short : goal.returns-clause-short
returns-clause-short c = work_short c.args.self.now c.args.item c.item_entry.result.now c.requires.jobs c.item_entry.ensures
