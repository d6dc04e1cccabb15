use Rattle.std.proofs.Common.{refl, sym, ◌∙◌, subst}
use Rattle.dep_graph.specs.declared.survey.Sorted.TheVariants.{Item, Other}
use Rattle.dep_graph.specs.Surveys.{IsSorted}
use Rattle.dep_graph.proofs.Results.{on_more}
use Rattle.dep_graph.proofs.Surveyed.{other_more, item_more}
use Rattle.dep_graph.proofs.survey.Survey.add.Goals as goal

pub returns-in-Other : goal.returns-in-Other
returns-in-Other c = on_more c.push.result (λ pushed before known.
    let indexed = c.in_ok-class.ensures.indexed before (sym known.classes.long ∙ sym c.len-place.ensures) known.index in
    let sorted : IsSorted before c.args.entry.now (Other c.in-Other.class) = subst (IsSorted before c.args.entry.now) c.in-Other.is (c.in_ok-class.ensures.sorted before known.index) in
    other_more before c.args.entry.now c.args.self.now _ known indexed c.in-Other.class sorted.0 sorted.1 pushed refl refl)
    c.push.ensures.ok

pub returns-in_ok-push-in-Item-2 : goal.returns-in_ok-push-in-Item-2
returns-in_ok-push-in-Item-2 c = on_more c.push-in-Item-3.result (λ pushed before known.
    let indexed = c.in_ok-class.ensures.indexed before (sym known.classes.long ∙ sym c.len-place.ensures) known.index in
    let sorted : IsSorted before c.args.entry.now (Item c.in-Item.refs) = subst (IsSorted before c.args.entry.now) c.in-Item.is (c.in_ok-class.ensures.sorted before known.index) in
    item_more before c.args.entry.now c.args.self.now _ known indexed c.in-Item.refs c.len-place.result c.len-number.result sorted.0 sorted.1 c.len-place.ensures c.len-number.ensures
    pushed c.in_ok-push-in-Item.ensures.ok c.in_ok-push-in-Item-2.ensures.ok)
    c.push-in-Item-3.ensures.ok
