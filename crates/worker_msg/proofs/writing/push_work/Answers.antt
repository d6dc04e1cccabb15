use Rattle.std.proofs.Common.{ℕ, List, ◌++◌, length, ap, append_assoc, ◌∙◌}
use Rattle.worker_msg.specs.Frames.{work_head}
use Rattle.worker_msg.proofs.Whole.{work_spelled}
use Rattle.worker_msg.proofs.writing.push_work.Goals as goal

pub returns-in-Ok-clause-ok : goal.returns-in-Ok-clause-ok
returns-in-Ok-clause-ok c =
    let out = c.args.out.now.items in
    let payload = c.args.payload.now in
    let head = work_head c.args.load c.args.key.now (length payload) in
    c.in-Ok.ensures.ok
    ∙ (ap (λ (l : List ℕ). l ++ payload) (c.in_ok-push_all.ensures.ok ∙ ap (λ (l : List ℕ). out ++ l) c.work_bytes.ensures)
    ∙ (append_assoc out head payload ∙ ap (λ (l : List ℕ). out ++ l) (work_spelled c.args.load c.args.key.now payload)))
