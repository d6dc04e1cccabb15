use Rattle.std.proofs.Common.{cond, ap, subst, ℕ}
use Rattle.std.proofs.lemmas.Bool.{lt-ltb, le-ltb}
use Rattle.worker_msg.specs.Fronts.{IsBad}
use Rattle.worker_msg.specs.declared.side.Side.TheVariants.{Crew}
use Rattle.worker_msg.proofs.CrewFronts.{bad_at, partial, whole}
use Rattle.worker_msg.proofs.front.look_head.Goals as goal

pub returns-then-at-lt4 : goal.returns-then-at-lt4
returns-then-at-lt4 c =
    let in_bytes = c.in-Some.ensures.within in
    let bad = bad_at c.args.bytes.now c.args.head.now c.args.more c.in-Some.at c.requires.head in_bytes.0 in_bytes.1 c.in-Some.ensures.same c.in-Some.ensures.differ c.requires.first in
    subst (λ (place : ℕ). IsBad Crew c.args.bytes.now place) (ap (λ b. cond b 0 c.in-Some.at) (lt-ltb c.in-Some.at 4 c.if-at-lt4.true)) bad

pub returns-else-at-lt4 : goal.returns-else-at-lt4
returns-else-at-lt4 c =
    let in_bytes = c.in-Some.ensures.within in
    let bad = bad_at c.args.bytes.now c.args.head.now c.args.more c.in-Some.at c.requires.head in_bytes.0 in_bytes.1 c.in-Some.ensures.same c.in-Some.ensures.differ c.requires.first in
    subst (λ (place : ℕ). IsBad Crew c.args.bytes.now place) (ap (λ b. cond b 0 c.in-Some.at) (le-ltb c.in-Some.at 4 c.if-at-lt4.false)) bad

pub returns-then-bytes-head : goal.returns-then-bytes-head
returns-then-bytes-head c = partial c.args.bytes.now c.args.head.now c.args.more c.requires.head c.in_default.ensures.none c.if-bytes-head.true

pub returns : goal.returns
returns c = whole c.args.bytes.now c.args.head.now c.args.more c.requires.head c.in_default.ensures.none c.if-bytes-head.false
