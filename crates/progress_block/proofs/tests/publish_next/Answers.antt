use Rattle.std.proofs.Common.{◌≤◌, ◌≡◌, sym, subst, ◌∙◌}
use Rattle.replay_core.specs.declared.counts.Counts.{Counts}
use Rattle.progress_block.proofs.Keeps.{ends_same}
use Rattle.progress_block.proofs.tests.publish_next.Goals as goal

pub publish-requires-clause-later : goal.publish-requires-clause-later
publish-requires-clause-later g c = λ last e.
    let before = c.requires.ends in
    let same : c.args.before ≡ last = ends_same before.0 e.0 c.args.before last (sym before.1 ∙ e.1) in
    subst (λ (z : Counts). z.events ≤ c.args.next.events) same c.if-next-before.false
