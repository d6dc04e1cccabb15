use Rattle.std.proofs.Common.{append_assoc, ◌∙◌}
use Rattle.foz_text.proofs.line_cause.push_field.Goals as goal

pub returns-clause-words : goal.returns-clause-words
returns-clause-words c = simp append_assoc (rw (c.as_str.ensures.value ∙ c.in_ok-words.ensures.ok) at c.push_words.ensures.words)
