use Rattle.std.proofs.Common.{Some, None, sym, ap, ◌∙◌}
use Rattle.dep_graph.specs.Surveys.{number_in}
use Rattle.dep_graph.proofs.Numbers.{none_holds, number_holds}
use Rattle.dep_graph.proofs.survey.Survey.dep_on.Goals as goal

pub returns-in_default : goal.returns-in_default
returns-in_default c = λ entries indexed. none_holds entries c.args.self.now.classes c.args.key (sym (indexed c.args.key) ∙ sym (c.in_default.ensures ∙ c.get.ensures.value))

pub returns-in-Some-number_at : goal.returns-in-Some-number_at
returns-in-Some-number_at c = λ entries indexed.
    number_holds entries c.args.self.now.classes c.args.key c.in-Some.place (Some c.in-Some-number_at.number) (sym (indexed c.args.key) ∙ sym (c.in-Some.ensures ∙ c.get.ensures.value))
    (c.in-Some-number_at.ensures ∙ ap (λ cs. number_in cs c.in-Some.place) c.as_slice.ensures)

pub returns-in-None : goal.returns-in-None
returns-in-None c = λ entries indexed.
    number_holds entries c.args.self.now.classes c.args.key c.in-Some.place None (sym (indexed c.args.key) ∙ sym (c.in-Some.ensures ∙ c.get.ensures.value))
    (c.in-None.ensures ∙ ap (λ cs. number_in cs c.in-Some.place) c.as_slice.ensures)
