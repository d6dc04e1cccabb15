use Rattle.std.proofs.Common.{ℕ, ◌≡◌, ap, subst, ◌∙◌, refl, replicate, length, false, arith}
use Rattle.std.specs.Prelude.{sum_by, Vec}
use Rattle.std.specs.Global.{Global}
use Rattle.replay_core.specs.Plans.{items_of}
use Rattle.replay_core.specs.Worklists.{IsUpTo}
use Rattle.replay_core.proofs.Listing.{room_first}
use Rattle.replay_core.proofs.worklist.worklist_over.Goals as goal

pub returns : goal.returns
returns c =
    let n : c.len-items.result ≡ items_of c.args.plan.now = c.len-items.ensures in
    let up : IsUpTo (items_of c.args.plan.now) c.in_ok-fresh.fresh.items = subst (λ m. IsUpTo m c.in_ok-fresh.fresh.items) n c.in_ok-fresh.ensures.items in
    record {
      users = c.requires.users;
      passed = c.in_ok-passed.ensures.items_if_clones_equal (λ y h. h) ∙ ap (λ m. replicate m false) n;
      progress = c.in_ok-progress.ensures.items_if_clones_equal (λ y h. h) ∙ ap (λ m. replicate m 0) n;
      fresh = up;
      head = refl;
      room = room_first c.args.users c.in_ok-passed.passed.items c.in_ok-fresh.fresh (items_of c.args.plan.now) c.total_len-room.result up
          (c.total_len-room.ensures ∙ ap (sum_by (λ (v : Vec ℕ Global). length v.items)) c.as_slice.ensures.value) (omega (arith, n, c.in_ok-fresh.ensures.room));
    }
