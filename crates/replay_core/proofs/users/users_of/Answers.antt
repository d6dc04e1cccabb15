use Rattle.std.proofs.Common.{◌≡◌, ◌<◌, ◌^◌, [], length, get_or, sym, subst, ap, ◌∙◌}
use Rattle.std.proofs.lemmas.List.{get_or_default}
use Rattle.replay_core.specs.Plans.{items_of, deps_of}
use Rattle.replay_core.specs.Worklists.{rows_of}
use Rattle.replay_core.proofs.Using.{users_more}
use Rattle.replay_core.proofs.users.users_of.Goals as goal

pub loop-i-preserved : goal.loop-i-preserved
loop-i-preserved c =
    let plan = c.args.plan.now in
    let inside : c.loop-i.i < items_of plan = subst (λ rs. c.loop-i.i < length rs) c.as_slice-rows.ensures c.loop-i-test.true in
    let row = c.index-rows-i.result in
    let deps_are : deps_of plan c.loop-i.i ≡ c.as_slice.result.now =
    sym (c.as_slice.ensures ∙ (c.index-rows-i.is ∙ (ap (λ rs. get_or rs c.loop-i.i row) c.as_slice-rows.ensures ∙ get_or_default plan.deps c.loop-i.i row [] inside))) in
    users_more plan (rows_of c.loop-i.users) (rows_of c.add_users.new.users) c.as_slice.result.now c.loop-i.i c.loop-i.invariant c.in_ok-add_users.ensures deps_are
    (subst (λ ds. length ds < 2 ^ 30) deps_are (c.requires.short c.loop-i.i [] inside))
