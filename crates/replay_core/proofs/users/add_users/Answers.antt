use Rattle.std.proofs.Common.{ℕ, ◌≡◌, ◌<◌, ◌++◌, ◌∷◌, [], length, get_or, set, take, ◌+◌, sym, subst, ap, ◌∙◌, arith}
use Rattle.std.specs.Prelude.{Vec}
use Rattle.std.specs.Global.{Global}
use Rattle.std.proofs.lemmas.List.{map-set, get_or-map, length-map, get_or_default}
use Rattle.replay_core.specs.declared.plan.Dep.TheVariants.{Item}
use Rattle.replay_core.specs.Histories.{IsInRange}
use Rattle.replay_core.specs.Worklists.{rows_of, AddsUsers}
use Rattle.replay_core.proofs.Using.{users_push, users_skip, get_or_default_item}
use Rattle.replay_core.proofs.users.add_users.Goals as goal
use Rattle.replay_core.proofs.users.add_users.Goals.{in-Item+in_ok-push, in_default}

pub loop-dep-preserved : goal.loop-dep-preserved
loop-dep-preserved c =
    elim c.match-dep.branch [
      | in-Item+in_ok-push w ↦ (
          let f = λ (v : Vec ℕ Global). v.items in
          let mid = c.loop-dep.users in
          let used = w.in-Item.used in
          let inside_old : used < length c.args.users.now.items = subst (IsInRange (length c.args.users.now.items)) w.in-Item.is (c.requires c.loop-dep.dep-index (Item 0) c.loop-dep-test.true) in
          let inside : used < length (rows_of mid) = omega (arith, inside_old, c.loop-dep.invariant.same_length, length-map c.args.users.now.items f) in
          let within : used < length mid.items = omega (arith, inside, length-map mid.items f) in
          let row : get_or (rows_of mid) used [] ≡ w.index_mut-row.result.now.items = get_or-map f mid.items used w.index_mut-row.result.now [] within ∙ ap f (sym w.index_mut-row.ensures.value) in
          let new_row : w.push.new.self.items ≡ get_or (rows_of mid) used [] ++ c.args.item ∷ [] = w.in_ok-push.ensures.items ∙ ap (λ xs. xs ++ c.args.item ∷ []) (sym row) in
          let new_is : rows_of c.match-dep.users ≡ set (rows_of mid) used (get_or (rows_of mid) used [] ++ c.args.item ∷ []) =
          ap rows_of w.users-is ∙ (map-set f mid.items used w.push.new.self ∙ ap (set (rows_of mid) used) new_row) in
          users_push (rows_of c.args.users.now) (rows_of mid) (rows_of c.match-dep.users) c.args.deps.now c.args.item c.loop-dep.dep-index used c.loop-dep.invariant c.loop-dep-test.true
          (get_or_default_item c.args.deps.now c.loop-dep.dep-index used c.loop-dep-test.true w.in-Item.is) inside new_is)
      | in_default w ↦
          subst (λ us. AddsUsers (rows_of c.args.users.now) (rows_of us) (take (c.loop-dep.dep-index + 1) c.args.deps.now) c.args.item) (sym w.users-is)
          (users_skip (rows_of c.args.users.now) (rows_of c.loop-dep.users) c.args.deps.now c.args.item c.loop-dep.dep-index (get_or c.args.deps.now c.loop-dep.dep-index (Item 0)) c.loop-dep.invariant c.loop-dep-test.true (get_or_default c.args.deps.now c.loop-dep.dep-index (get_or c.args.deps.now c.loop-dep.dep-index (Item 0)) (Item 0) c.loop-dep-test.true) w.in_default.not-Item)
    ]
