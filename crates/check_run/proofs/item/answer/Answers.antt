use Rattle.std.proofs.Common.{ℕ, List, Ok, subst}
use Rattle.foz_payload.specs.Meaning.{Means}
use Rattle.foz_payload.proofs.Tags.{means_tag}
use Rattle.check_run.proofs.Answered.{is_answered}
use Rattle.check_run.proofs.item.answer.Goals as goal

pub create-requires : goal.create-requires
create-requires g c = means_tag c.item_entry-entry.result.now.head.key c.as_slice.result.now c.in-Ok.state c.in-Ok.ensures.meant

pub returns-in-Ok : goal.returns-in-Ok
returns-in-Ok g c =
    is_answered g.R.Driver.creates (g.R.Driver.meaning c.args.driver.now) (g.R.Driver.meaning c.create.new.self) c.args.entries.now c.args.graph.now.classes c.args.item c.item_entry-entry.result.now c.in-Ok.state c.create.result
    c.item_entry-entry.ensures
    (subst (λ (payload : List ℕ). Means c.item_entry-entry.result.now.head.key payload (Ok c.in-Ok.state)) c.as_slice.ensures c.in-Ok.ensures.meant)
    c.create.ensures.created
