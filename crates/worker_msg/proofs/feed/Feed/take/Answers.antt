use Rattle.worker_msg.proofs.Taking.{none_exactly, bad_exactly, crew_remembers, crew_lacks, same_side, same_given}
use Rattle.worker_msg.proofs.feed.Feed.take.Goals as goal

pub returns-clause-none : goal.returns-clause-none
returns-clause-none c = none_exactly c.args.self.now c.take_front.result c.take_front.new.self c.take_front.ensures

pub returns-clause-bad : goal.returns-clause-bad
returns-clause-bad c = λ at. bad_exactly c.args.self.now c.take_front.result c.take_front.new.self at c.take_front.ensures

pub returns-clause-side : goal.returns-clause-side
returns-clause-side c = same_side c.args.self.now c.take_front.result c.take_front.new.self c.take_front.ensures

pub returns-clause-given : goal.returns-clause-given
returns-clause-given c = same_given c.args.self.now c.take_front.result c.take_front.new.self c.take_front.ensures

pub returns-clause-crew : goal.returns-clause-crew
returns-clause-crew c = crew_remembers c.args.self.now c.take_front.result c.take_front.new.self c.take_front.ensures

pub returns-clause-few : goal.returns-clause-few
returns-clause-few c = crew_lacks c.args.self.now c.take_front.result c.take_front.new.self c.take_front.ensures
