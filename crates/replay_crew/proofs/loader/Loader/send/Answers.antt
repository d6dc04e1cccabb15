use Rattle.std.proofs.Common.{◌++◌, ◌≤◌, length, drop, ap, ◌∙◌, arith}
use Rattle.worker_msg.specs.Frames.{work_spelling}
use Rattle.slot_log.specs.Works.{work_of}
use Rattle.replay_crew.specs.Jobs.{orders_of}
use Rattle.replay_crew.proofs.Sending.{sent_is, to_worker}
use Rattle.replay_crew.proofs.loader.Loader.send.Goals as goal

pub send-requires-clause-frame : goal.send-requires-clause-frame
send-requires-clause-frame g c =
    let entry = c.entry-entry.result.now in
    let room = c.as_mut_slice-frame.result.now in
    let laid = c.lay_msg-len.ensures.frame ∙ ap (λ p. work_spelling c.args.load entry.head.key p ++ drop c.lay_msg-len.result room) c.as_slice.ensures in
    let long = c.lay_msg-len.ensures.length in
    let payload = ap length c.as_slice.ensures in
    let short = c.entry-entry.ensures.short in
    let least = c.self.invariant in
    let same = ap length c.as_mut_slice-frame.ensures.value in
    let fits : c.lay_msg-len.result ≤ length room = omega arith in
    to_worker c.args.load entry (work_of (orders_of c.args.jobs.now) c.args.item) _ short c.entry-entry.ensures.work
    (sent_is c.args.load entry (work_of (orders_of c.args.jobs.now) c.args.item) room c.lay_msg-len.new.out c.lay_msg-len.result c.entry-entry.ensures.work laid c.lay_msg-len.auto.out fits)
