use Rattle.std.proofs.Common.{sym}
use Rattle.std.proofs.lemmas.List.Elements.{All-more}
use Rattle.replay_core.specs.declared.plan.Dep.TheVariants.{Item}
use Rattle.replay_core.specs.Searching.{IsMarked}
use Rattle.replay_core.proofs.founded.first_unmarked.Goals as goal

pub loop-place-preserved : goal.loop-place-preserved
loop-place-preserved c = All-more (IsMarked c.args.marks.now) c.args.deps.now c.loop-place.place (Item 0) c.loop-place-test.true c.loop-place.invariant (sym c.if-not-is_marked.ensures)
