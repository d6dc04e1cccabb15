use Rattle.std.proofs.Common.{◌<◌, length, sym, subst}
use Rattle.std.specs.Prelude.{All, IfSome, IfNone}
use Rattle.replay_core.specs.Plans.{deps_of}
use Rattle.slot_log.specs.Loads.{IsCreatedDep}
use Rattle.replay_crew.specs.Loading.{IsItemIn, IsAmong}
use Rattle.replay_crew.proofs.Walking.{founded_inside, deps_are_items, row_is}
use Rattle.replay_crew.proofs.loader.first_new.Goals as goal

pub bounds-rows-item : goal.bounds-rows-item
bounds-rows-item c = subst (λ rows. c.args.item < length rows) (sym c.as_slice-rows.ensures) (founded_inside c.args.plan.now c.args.item c.requires.founded)

pub first_new_of-requires : goal.first_new_of-requires
first_new_of-requires c =
    let row = row_is c.args.plan.now c.args.item c.as_slice-rows.result.now c.index-rows-item.result c.as_slice.result.now (founded_inside c.args.plan.now c.args.item c.requires.founded) c.as_slice-rows.ensures c.index-rows-item.is c.as_slice.ensures in
    subst (All (IsItemIn (length c.args.created.now))) (sym row) (deps_are_items c.args.plan.now (length c.args.created.now) c.args.item c.requires.items c.requires.founded)

pub returns-clause-needed : goal.returns-clause-needed
returns-clause-needed c =
    let row = row_is c.args.plan.now c.args.item c.as_slice-rows.result.now c.index-rows-item.result c.as_slice.result.now (founded_inside c.args.plan.now c.args.item c.requires.founded) c.as_slice-rows.ensures c.index-rows-item.is c.as_slice.ensures in
    subst (λ deps. IfSome c.first_new_of.result (λ j. IsAmong j deps)) row c.first_new_of.ensures.needed

pub returns-clause-none : goal.returns-clause-none
returns-clause-none c =
    let row = row_is c.args.plan.now c.args.item c.as_slice-rows.result.now c.index-rows-item.result c.as_slice.result.now (founded_inside c.args.plan.now c.args.item c.requires.founded) c.as_slice-rows.ensures c.index-rows-item.is c.as_slice.ensures in
    subst (λ deps. IfNone c.first_new_of.result (All (IsCreatedDep c.args.created.now) deps)) row c.first_new_of.ensures.none
