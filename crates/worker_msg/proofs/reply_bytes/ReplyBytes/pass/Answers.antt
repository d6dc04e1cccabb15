use Rattle.std.proofs.Common.{◌≡◌, ◌≤◌, length, take, drop, ap, ◌∙◌, arith}
use Rattle.std.proofs.lemmas.List.{length-take-le}
use Rattle.worker_msg.proofs.Whole.{moved}
use Rattle.worker_msg.proofs.reply_bytes.ReplyBytes.pass.Goals as goal

pub returns : goal.returns
returns c =
    let bytes = c.self.inside.bytes in
    let len = c.self.inside.len in
    let most = c.self.invariant in
    let room = c.self.told in
    let inside : len ≤ length bytes = omega arith in
    let size : length (take len bytes) ≡ len = length-take-le len bytes inside in
    let same : length (take len bytes) ≡ length c.args.self.now = ap length c.self.view_is in
    rw c.copy_within.ensures.after (moved bytes c.args.count len (omega arith) inside ∙ ap (drop c.args.count) c.self.view_is)
