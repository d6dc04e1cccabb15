use Rattle.std.proofs.Common.{ℕ, ◌+◌, ◌-◌, List, ◌++◌, length, drop, ap, ◌∙◌, arith}
use borrow.Rule.Slice.PartMut.{put_mid}
use Rattle.worker_msg.specs.Frames.{work_head}
use Rattle.worker_msg.proofs.Whole.{laid}
use Rattle.worker_msg.proofs.writing.lay_msg.Goals as goal

pub returns-clause-frame : goal.returns-clause-frame
returns-clause-frame c =
    let out = c.args.out.now in
    let payload = c.args.payload.now in
    let k = 17 + length payload - 17 in
    ap (λ (l : List ℕ). put_mid 17 k (l ++ drop 17 out) c.copy_from_slice-2.new.self) (c.copy_from_slice.ensures.after ∙ c.work_bytes.ensures)
    ∙ (ap (λ (l : List ℕ). put_mid 17 k (work_head c.args.load c.args.key (length payload) ++ drop 17 out) l) c.copy_from_slice-2.ensures.after
    ∙ laid out payload c.args.load c.args.key k c.requires.room (omega arith))
