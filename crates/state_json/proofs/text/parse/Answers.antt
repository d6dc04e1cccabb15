use Rattle.std.proofs.Common.{sym, ap, ◌∙◌}
use Rattle.state_json.specs.Parsed.{parsed, value_of_text, of_folded, or_json}
use Rattle.state_json.proofs.InText.{not_read}
use Rattle.state_json.proofs.text.parse.Goals as goal

pub returns : goal.returns
unfolding parsed
returns c =
    let none = not_read c.as_slice.result.now (c.in-Err.ensures.err (λ memory. let said = rw c.if-is_memory.false at (c.is_memory.ensures.1 memory) in absurd cc)) in
    ap of_folded c.in-Ok.ensures ∙ ap or_json (ap value_of_text (sym c.as_slice.ensures) ∙ none)
