use Rattle.std.proofs.Common.{◌≡◌, ◌+◌, List, ℕ, Some, take, sym, ap, ◌∙◌}
use Rattle.std.proofs.lemmas.List.{take_rest}
use Rattle.capture_lines.proofs.CutLemmas.{is_cut, cut_at}
use Rattle.capture_lines.proofs.cutting.cut.Goals as goal

pub returns-in-Some : goal.returns-in-Some
returns-in-Some c =
    let line = c.args.line.now in
    let at = c.in-Some.at in
    ap (λ (rest : List ℕ). Some (take at line, rest)) (take_rest line (at + 1)) ∙ sym (is_cut line ∙ ap (cut_at line) (sym c.in-Some.ensures))

pub returns-in-None : goal.returns-in-None
returns-in-None c = sym (is_cut c.args.line.now ∙ ap (cut_at c.args.line.now) (sym c.in-None.ensures))
