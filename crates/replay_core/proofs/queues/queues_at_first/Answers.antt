use Rattle.std.proofs.Common.{arith, ◌≡◌, ap, ◌∙◌, refl, replicate, false}
use Rattle.replay_core.specs.Plans.{items_of}
use Rattle.replay_core.proofs.Queueing.{kept_at_first}
use Rattle.replay_core.proofs.queues.queues_at_first.Goals as goal

pub returns : goal.returns
returns c = λ slots.
    let n : c.len-items.result ≡ items_of c.args.plan.now = c.len-items.ensures in
    kept_at_first c.args.plan.now slots _ c.in_ok-list.ensures (c.in_ok-queued.ensures.items_if_clones_equal (λ y h. h) ∙ ap (λ m. replicate m false) n)
    c.in_ok-ready.ensures.items refl (omega (arith, n, c.in_ok-ready.ensures.exact))
