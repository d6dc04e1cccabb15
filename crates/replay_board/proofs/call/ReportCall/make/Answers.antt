use Rattle.std.proofs.Common.{◌+◌}
use Rattle.replay_core.specs.declared.event.Event.TheVariants.{Reply}
use Rattle.replay_board.proofs.Steps.{one_grew, same}
use Rattle.replay_board.proofs.call.ReportCall.make.Goals as goal

pub returns-clause-grew : goal.returns-clause-grew
returns-clause-grew c = let held = c.requires.may in one_grew (c.args.slot + 1) c.args.core.now c.reply.new.self (Reply c.args.slot held.0 c.args.self.code) (same (c.args.slot + 1)) (c.reply.ensures.added held.0 held.1)
