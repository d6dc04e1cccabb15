use Rattle.std.proofs.Common.{◌≡◌, Some, None, sym, ap, ◌∙◌}
use Rattle.std.specs.Prelude.{option_copied}
use Rattle.foz_entry.specs.declared.cut.Entry.{Entry}
use Rattle.dep_graph.proofs.Picked.{entry_of_item}
use Rattle.dep_graph.proofs.item.item_entry.Goals as goal

pub returns : goal.returns
returns c =
    let is = entry_of_item c.args.entries.now c.args.graph.now c.args.item c.requires.plan c.requires.inside in
    is.picked ∙ (sym is.placed ∙ (sym c.find_entry.ensures ∙ ap option_copied c.in-Some.is))

pub unreachable-requires : goal.unreachable-requires
unreachable-requires c =
    let is = entry_of_item c.args.entries.now c.args.graph.now c.args.item c.requires.plan c.requires.inside in
    nothing is.entry (sym is.placed ∙ (sym c.find_entry.ensures ∙ ap option_copied c.in-None.is))
  where
    nothing : (entry : Entry) → Some entry ≡ None → ⊥
    nothing entry e = cc
