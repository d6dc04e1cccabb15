use Rattle.std.proofs.Common.{◌∙◌, append_assoc}
use Rattle.foz_text.proofs.list_text.push_line.Goals as goal

pub returns-clause-line : goal.returns-clause-line
returns-clause-line c = λ before stands. c.in_ok-extend_from_slice.ensures.items ∙ rw (c.as_bytes.ensures.value, c.in_ok-text.ensures.ok, stands) (simp append_assoc)
