use Rattle.replay_core.proofs.Settled.{held_item_inside, reply_decides_only}
use Rattle.replay_core.proofs.scheduler.Core.reply.Goals as goal

pub decide-requires-clause-inside : goal.decide-requires-clause-inside
decide-requires-clause-inside c = held_item_inside c.self.inside.record.setup c.self.inside.record.events c.args.slot c.held_item-item.result c.self.invariant.run c.held_item-item.ensures.held

pub decide-requires-clause-decides : goal.decide-requires-clause-decides
decide-requires-clause-decides c = reply_decides_only c.self.inside.record.setup c.self.inside.record.events c.args.slot c.held_item-item.result c.args.code c.self.invariant.run c.held_item-item.ensures.held
