use Rattle.std.proofs.Common.{rules, ◌≡◌, ◌++◌, OnOk, OnErr}
use Rattle.worker_msg.specs.Feeds.{Feeding}
use Rattle.worker_msg.proofs.Taking.{pushed_bad}
use Rattle.worker_msg.proofs.feed.Feed.push.Goals as goal

pub returns-clause-bad : goal.returns-clause-bad
returns-clause-bad c = pushed_bad c.args.self.now _ c.args.piece.now c.push.result (search rules) (search rules)
