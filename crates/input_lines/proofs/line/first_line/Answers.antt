use Rattle.std.proofs.Common.{List, ℕ, Some, ◌+◌, ◌∷◌, take, sym, ap, ◌∙◌, arith}
use Rattle.std.proofs.lemmas.List.{take_rest}
use Rattle.input_lines.specs.Lines.{lines_of}
use Rattle.input_lines.proofs.Lines.{is_split, last_line}
use Rattle.input_lines.proofs.line.first_line.Goals as goal

pub returns-in-Some-clause-first : goal.returns-in-Some-clause-first
returns-in-Some-clause-first c =
    let input = c.args.input.now in
    let at = c.in-Some.at in
    is_split input (Some at) c.in-Some.ensures ∙ ap (λ (rest : List ℕ). take at input ∷ lines_of rest) (sym (take_rest input (at + 1)))

pub returns-in-None-clause-first : goal.returns-in-None-clause-first
returns-in-None-clause-first c = last_line c.args.input.now (λ is. grind (arith, is)) c.in-None.ensures
