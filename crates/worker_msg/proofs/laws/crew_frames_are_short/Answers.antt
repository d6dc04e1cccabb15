use Rattle.worker_msg.proofs.Taking.{crew_short}
use Rattle.worker_msg.proofs.laws.crew_frames_are_short.Goals as goal

pub returns : goal.returns
returns c = crew_short
