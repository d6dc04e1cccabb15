use Rattle.worker_msg.specs.declared.msg.Msg.TheVariants.{Reply}
use Rattle.worker_node.proofs.Payloads.{replied, cut_short}
use Rattle.worker_node.proofs.working.reply.Goals as goal

pub returns-in-Ok-clause-ok : goal.returns-in-Ok-clause-ok
returns-in-Ok-clause-ok g c = λ told. replied g.R.Driver.creates _ _ _ _ _ _ (Reply c.args.key c.in_ok-code.code) c.in_ok-code.ensures.ok c.reply_frame.ensures (c.in-Ok.ensures.whole told)

pub returns-in-Err-clause-err : goal.returns-in-Err-clause-err
returns-in-Err-clause-err g c = λ told.
    let count = c.in-Err.ensures.cut_short told in
    cut_short g.R.Driver.creates _ _ _ count.0 _ _ _ (Reply c.args.key c.in_ok-code.code) c.in_ok-code.ensures.ok c.reply_frame.ensures count.1
