use Rattle.std.proofs.Common.{Some, ap, ◌∙◌, subst}
use Rattle.worker_msg.specs.Frames.{IsKey}
use Rattle.mem_slot.proofs.Asking.{too_short, other_kind, asked}
use Rattle.mem_slot.proofs.frame.asked_key.Goals as goal
use Rattle.mem_slot.proofs.frame.asked_key.Goals.{then-frame-lt17-via-then-frame-lt17, then-frame-lt17-via-else-frame-lt17+then-frame-ne3}

pub returns-then-frame-lt17 : goal.returns-then-frame-lt17
returns-then-frame-lt17 c = λ message spells. elim c.then-frame-lt17.branch [
  | then-frame-lt17-via-then-frame-lt17 w ↦ too_short c.args.frame.now message spells w.if-frame-lt17.true
  | then-frame-lt17-via-else-frame-lt17+then-frame-ne3 w ↦ other_kind c.args.frame.now 0 message spells w.if-frame-ne3.true
]

pub returns : goal.returns
returns c = λ message spells.
    let within = subst IsKey c.key_of.ensures.key c.key_of.ensures.within in
    ap (λ key. Some key) c.key_of.ensures.key ∙ asked c.args.frame.now 0 c.in-Some-Some.tag c.in-Some-Some.hash message spells c.if-frame-lt17.false c.if-frame-ne3.false c.in-Some-Some.ensures.found c.in-Some-Some.ensures'.found within.tag within.hash
