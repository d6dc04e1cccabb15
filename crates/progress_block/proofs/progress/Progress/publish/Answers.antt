use Rattle.std.proofs.Common.{rules, ◌≡◌, [], ◌∷◌, if◌then◌else◌, sym, ap, subst, ◌∙◌}
use Rattle.progress_block.specs.Rows.{EndsWith}
use Rattle.progress_block.specs.Ends.{rows_of}
use Rattle.progress_block.proofs.Keeps.{publishes}
use Rattle.progress_block.proofs.progress.Progress.publish.Goals as goal

pub swap_as-requires : goal.swap_as-requires
swap_as-requires g c =
    let w = c.tell.new.writer in
    let rows : w.pass.me.0.client.rows ≡ rows_of c.args.writer.now = sym (ap (λ b. if b then w.pass.me.0.client.rows else (w.first ∷ [])) c.tell.ensures.told) ∙ c.tell.ensures.rows in
    (search rules, (search rules, (search rules, publishes _ _ (record { counts = c.args.row }) w.writes (λ l e. c.requires.later l (subst (λ z. EndsWith z l) rows e)) c.requires.most)))
