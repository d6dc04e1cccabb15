use Rattle.std.proofs.Common.{rules, ◌≡◌, true, Some, length, subst, sym, ap, ◌∙◌, arith}
use Rattle.std.specs.Prelude.{All}
use Rattle.std.proofs.lemmas.List.{take_all}
use Rattle.std.proofs.lemmas.List.Elements.{All-more}
use Rattle.std.proofs.lemmas.Option.{slice_get-get_or}
use Rattle.replay_core.specs.declared.plan.Dep.TheVariants.{Item}
use Rattle.slot_log.specs.Loads.{IsCreatedDep, is_created}
use Rattle.replay_crew.specs.Loading.{IsItemIn}
use Rattle.replay_crew.proofs.loader.first_new_of.Goals as goal

pub bounds-created-needed : goal.bounds-created-needed
bounds-created-needed c = subst (IsItemIn (length c.args.created.now)) c.in-Item.is (c.requires c.loop-dep.dep-index (Item 0) c.loop-dep-test.true)

pub unreachable-requires : goal.unreachable-requires
unreachable-requires c = subst (IsItemIn (length c.args.created.now)) c.in-Absent.is (c.requires c.loop-dep.dep-index (Item 0) c.loop-dep-test.true)

pub returns-then-not-created-needed-clause-needed : goal.returns-then-not-created-needed-clause-needed
returns-then-not-created-needed-clause-needed c = (c.loop-dep.dep-index, slice_get-get_or c.args.deps.now c.loop-dep.dep-index (Item 0) c.loop-dep-test.true ∙ ap (λ dep. Some dep) c.in-Item.is)

pub returns-then-not-created-needed-clause-inside : goal.returns-then-not-created-needed-clause-inside
returns-then-not-created-needed-clause-inside c = subst (IsItemIn (length c.args.created.now)) c.in-Item.is (c.requires c.loop-dep.dep-index (Item 0) c.loop-dep-test.true)

pub loop-dep-preserved : goal.loop-dep-preserved
loop-dep-preserved c = All-more (IsCreatedDep c.args.created.now) c.args.deps.now c.loop-dep.dep-index (Item 0) c.loop-dep-test.true c.loop-dep.invariant (subst (IsCreatedDep c.args.created.now) (sym c.in-Item.is) (let unset = c.if-not-created-needed.false in search rules))

pub returns-clause-none : goal.returns-clause-none
returns-clause-none c = subst (All (IsCreatedDep c.args.created.now)) (take_all c.loop-dep.dep-index c.args.deps.now (omega arith)) c.loop-dep.invariant
